pub mod ByteLaws
pub mod CutterLaws
pub mod ScriptLaws

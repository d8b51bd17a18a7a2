pub mod OneTrace

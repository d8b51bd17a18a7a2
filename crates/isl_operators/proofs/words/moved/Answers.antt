use Rattle.std.proofs.Common.{[], false, sym, ap, ◌∙◌}
use Rattle.std.proofs.lemmas.Bool.{false≢true}
use Rattle.isl_union.specs.KeptValue.{Has}
use Rattle.isl_tree.specs.declared.statement.Prefix.TheVariants as p
use Rattle.isl_relation.specs.Formed.{FormsDomainMap, FormsIdentity, FormsRangeMap}
use Rattle.isl_operators.specs.Formed.{FormsWide, WordForms}
use Rattle.isl_operators.specs.Made.{word_works}
use Rattle.isl_operators.specs.Operations.{WordHas}
use Rattle.isl_operators.proofs.FaultLaws.{copied_units, cut_units, memory_units, without_names}
use Rattle.isl_operators.proofs.MadeLaws.{always, over, word_says}
use Rattle.isl_operators.proofs.WideLaws.{forms_narrow, forms_wide}
use Rattle.isl_operators.proofs.words.moved.Goals as goal

pub returns-in-Domain : goal.returns-in-Domain
returns-in-Domain c =
    let operand = c.args.operand.now in
    let g = c.args.meter.now in
    let h = c.domain.new.meter in
    let r = c.domain.result in
    let made = c.domain.ensures in
    let Wide = FormsWide (WordForms p.Domain) (Has operand) in
    let narrow = always r (¬ Wide) (λ wide. wide.3) in
    let units = cut_units [] Wide g h without_names (λ wide. wide.3) r made.meter in
    let written = over operand.params (WordHas p.Domain operand.params (Has operand)) r made.params made.elements in
    let says = word_says operand g h r c.args.word p.Domain c.in-Domain.is (written, made.elements, narrow, units) in
    record {
      written = says.0;
      kept = made.kept;
      params = made.params;
      elements = says.1;
      definitions = λ free. absurd (false≢true (sym free ∙ ap word_works c.in-Domain.is));
      numbers = made.numbers;
      narrow = says.2;
      units = says.3;
    }

pub returns-in-Range : goal.returns-in-Range
returns-in-Range c =
    let operand = c.args.operand.now in
    let g = c.args.meter.now in
    let h = c.range.new.meter in
    let r = c.range.result in
    let made = c.range.ensures in
    let Wide = FormsWide (WordForms p.Range) (Has operand) in
    let narrow = always r (¬ Wide) (λ wide. wide.3) in
    let units = cut_units [] Wide g h without_names (λ wide. wide.3) r made.meter in
    let written = over operand.params (WordHas p.Range operand.params (Has operand)) r made.params made.elements in
    let says = word_says operand g h r c.args.word p.Range c.in-Range.is (written, made.elements, narrow, units) in
    record {
      written = says.0;
      kept = made.kept;
      params = made.params;
      elements = says.1;
      definitions = λ free. absurd (false≢true (sym free ∙ ap word_works c.in-Range.is));
      numbers = made.numbers;
      narrow = says.2;
      units = says.3;
    }

pub returns-in-Deltas : goal.returns-in-Deltas
returns-in-Deltas c =
    let operand = c.args.operand.now in
    let g = c.args.meter.now in
    let h = c.deltas.new.meter in
    let r = c.deltas.result in
    let made = c.deltas.ensures in
    let Wide = FormsWide (WordForms p.Deltas) (Has operand) in
    let narrow = always r (¬ Wide) (λ wide. wide.3) in
    let units = cut_units [] Wide g h without_names (λ wide. wide.3) r made.meter in
    let written = over operand.params (WordHas p.Deltas operand.params (Has operand)) r made.params made.elements in
    let says = word_says operand g h r c.args.word p.Deltas c.in-Deltas.is (written, made.elements, narrow, units) in
    record {
      written = says.0;
      kept = made.kept;
      params = made.params;
      elements = says.1;
      definitions = λ free. absurd (false≢true (sym free ∙ ap word_works c.in-Deltas.is));
      numbers = made.numbers;
      narrow = says.2;
      units = says.3;
    }

pub returns-in-Wrap : goal.returns-in-Wrap
returns-in-Wrap c =
    let operand = c.args.operand.now in
    let g = c.args.meter.now in
    let h = c.wrap.new.meter in
    let r = c.wrap.result in
    let made = c.wrap.ensures in
    let Wide = FormsWide (WordForms p.Wrap) (Has operand) in
    let narrow = always r (¬ Wide) (λ wide. wide.3) in
    let units = memory_units [] Wide g h false r made.meter made.faults in
    let written = over operand.params (WordHas p.Wrap operand.params (Has operand)) r made.params made.elements in
    let says = word_says operand g h r c.args.word p.Wrap c.in-Wrap.is (written, made.elements, narrow, units) in
    record {
      written = says.0;
      kept = made.kept;
      params = made.params;
      elements = says.1;
      definitions = λ free. made.definitions;
      numbers = made.numbers;
      narrow = says.2;
      units = says.3;
    }

pub returns-in-Unwrap : goal.returns-in-Unwrap
returns-in-Unwrap c =
    let operand = c.args.operand.now in
    let g = c.args.meter.now in
    let h = c.unwrap.new.meter in
    let r = c.unwrap.result in
    let made = c.unwrap.ensures in
    let Wide = FormsWide (WordForms p.Unwrap) (Has operand) in
    let narrow = always r (¬ Wide) (λ wide. wide.3) in
    let units = memory_units [] Wide g h false r made.meter made.faults in
    let written = over operand.params (WordHas p.Unwrap operand.params (Has operand)) r made.params made.elements in
    let says = word_says operand g h r c.args.word p.Unwrap c.in-Unwrap.is (written, made.elements, narrow, units) in
    record {
      written = says.0;
      kept = made.kept;
      params = made.params;
      elements = says.1;
      definitions = λ free. made.definitions;
      numbers = made.numbers;
      narrow = says.2;
      units = says.3;
    }

pub returns-in-Zip : goal.returns-in-Zip
returns-in-Zip c =
    let operand = c.args.operand.now in
    let g = c.args.meter.now in
    let h = c.zip.new.meter in
    let r = c.zip.result in
    let made = c.zip.ensures in
    let Wide = FormsWide (WordForms p.Zip) (Has operand) in
    let narrow = always r (¬ Wide) (λ wide. wide.3) in
    let units = memory_units [] Wide g h false r made.meter made.faults in
    let written = over operand.params (WordHas p.Zip operand.params (Has operand)) r made.params made.elements in
    let says = word_says operand g h r c.args.word p.Zip c.in-Zip.is (written, made.elements, narrow, units) in
    record {
      written = says.0;
      kept = made.kept;
      params = made.params;
      elements = says.1;
      definitions = λ free. made.definitions;
      numbers = made.numbers;
      narrow = says.2;
      units = says.3;
    }

pub returns-in-Identity : goal.returns-in-Identity
returns-in-Identity c =
    let operand = c.args.operand.now in
    let g = c.args.meter.now in
    let h = c.identity.new.meter in
    let r = c.identity.result in
    let made = c.identity.ensures in
    let Wide = FormsWide (WordForms p.Identity) (Has operand) in
    let narrow = forms_narrow FormsIdentity operand r made.ok in
    let wider = forms_wide FormsIdentity operand c.pieces-pieces.ensures.kept in
    let units = copied_units [] Wide g h false without_names _ wider r made.meter made.faults in
    let written = over operand.params (WordHas p.Identity operand.params (Has operand)) r made.params made.elements in
    let says = word_says operand g h r c.args.word p.Identity c.in-Identity.is (written, made.elements, narrow, units) in
    record {
      written = says.0;
      kept = made.kept;
      params = made.params;
      elements = says.1;
      definitions = λ free. made.definitions;
      numbers = made.numbers;
      narrow = says.2;
      units = says.3;
    }

pub returns-in-DomainMap : goal.returns-in-DomainMap
returns-in-DomainMap c =
    let operand = c.args.operand.now in
    let g = c.args.meter.now in
    let h = c.domain_map.new.meter in
    let r = c.domain_map.result in
    let made = c.domain_map.ensures in
    let Wide = FormsWide (WordForms p.DomainMap) (Has operand) in
    let narrow = forms_narrow FormsDomainMap operand r made.ok in
    let wider = forms_wide FormsDomainMap operand c.pieces-pieces.ensures.kept in
    let units = copied_units [] Wide g h false without_names _ wider r made.meter made.faults in
    let written = over operand.params (WordHas p.DomainMap operand.params (Has operand)) r made.params made.elements in
    let says = word_says operand g h r c.args.word p.DomainMap c.in-DomainMap.is (written, made.elements, narrow, units) in
    record {
      written = says.0;
      kept = made.kept;
      params = made.params;
      elements = says.1;
      definitions = λ free. made.definitions;
      numbers = made.numbers;
      narrow = says.2;
      units = says.3;
    }

pub returns-in-RangeMap : goal.returns-in-RangeMap
returns-in-RangeMap c =
    let operand = c.args.operand.now in
    let g = c.args.meter.now in
    let h = c.range_map.new.meter in
    let r = c.range_map.result in
    let made = c.range_map.ensures in
    let Wide = FormsWide (WordForms p.RangeMap) (Has operand) in
    let narrow = forms_narrow FormsRangeMap operand r made.ok in
    let wider = forms_wide FormsRangeMap operand c.pieces-pieces.ensures.kept in
    let units = copied_units [] Wide g h false without_names _ wider r made.meter made.faults in
    let written = over operand.params (WordHas p.RangeMap operand.params (Has operand)) r made.params made.elements in
    let says = word_says operand g h r c.args.word p.RangeMap c.in-RangeMap.is (written, made.elements, narrow, units) in
    record {
      written = says.0;
      kept = made.kept;
      params = made.params;
      elements = says.1;
      definitions = λ free. made.definitions;
      numbers = made.numbers;
      narrow = says.2;
      units = says.3;
    }

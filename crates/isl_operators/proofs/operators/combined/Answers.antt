use Rattle.std.proofs.Common.{false, sym, ap, ◌∙◌}
use Rattle.std.proofs.lemmas.Bool.{false≢true}
use Rattle.isl_space.specs.Element.{Element}
use Rattle.isl_space.specs.Names.{joined}
use Rattle.isl_space.specs.Valuation.{Valuation}
use Rattle.isl_union.specs.KeptValue.{Has}
use Rattle.isl_tree.specs.declared.statement.Binary.TheVariants as b
use Rattle.isl_relation.specs.Formed.{FormsJoin, FormsUniversal}
use Rattle.isl_relation.specs.Wide.{PairsTooWide}
use Rattle.isl_operators.specs.Operations.{OperatorHas}
use Rattle.isl_operators.specs.Formed.{OperatorForms, PairsWide}
use Rattle.isl_operators.specs.Made.{operator_works}
use Rattle.isl_operators.proofs.FaultLaws.{charge, formed_units, plain_units, worked_result, worked_units}
use Rattle.isl_operators.proofs.MadeLaws.{always, formed_narrow, intersection_of, operator_says, over}
use Rattle.isl_operators.proofs.WideLaws.{pairs_narrow, pairs_wide}
use Rattle.isl_operators.proofs.operators.combined.Goals as goal

pub returns-in-Union : goal.returns-in-Union
returns-in-Union c =
    let left = c.args.left.now in
    let right = c.args.right.now in
    let names = joined left.params right.params in
    let g = c.args.meter.now in
    let h = c.union.new.meter in
    let r = c.union.result in
    let made = c.union.ensures in
    let Wide = PairsWide (OperatorForms b.Union) (Has left) (Has right) in
    let says = operator_says left right g h r c.args.operator b.Union c.in-Union.is
    (made.written, made.elements, always r (¬ Wide) (λ wide. wide.5), plain_units names Wide g h false _ r made.meter made.faults) in
    record {
      written = says.0;
      kept = made.kept;
      params = made.params;
      elements = says.1;
      definitions = λ free. made.definitions;
      numbers = made.numbers _ c.requires.left c.requires.right;
      narrow = says.2;
      units = says.3;
    }

pub returns-in-Intersection : goal.returns-in-Intersection
returns-in-Intersection c =
    let left = c.args.left.now in
    let right = c.args.right.now in
    let names = joined left.params right.params in
    let g = c.args.meter.now in
    let h = c.intersected.new.meter in
    let r = c.intersected.result in
    let made = c.intersected.ensures in
    let Wide = PairsWide (OperatorForms b.Intersection) (Has left) (Has right) in
    let says = operator_says left right g h r c.args.operator b.Intersection c.in-Intersection.is (
      intersection_of left right r made.params made.elements made.pieces,
      made.elements,
      always r (¬ Wide) (λ wide. wide.5),
      worked_units names Wide g h _ (λ wide. wide.5) r made.units,
    ) in
    record {
      written = says.0;
      kept = made.kept;
      params = made.params;
      elements = says.1;
      definitions = λ free. absurd (false≢true (sym free ∙ ap operator_works c.in-Intersection.is));
      numbers = made.numbers;
      narrow = says.2;
      units = says.3;
    }

pub returns-in-Difference : goal.returns-in-Difference
returns-in-Difference c =
    let left = c.args.left.now in
    let right = c.args.right.now in
    let names = joined left.params right.params in
    let g = c.args.meter.now in
    let h = c.subtracted.new.meter in
    let r = c.subtracted.result in
    let made = c.subtracted.ensures in
    let Wide = PairsWide (OperatorForms b.Difference) (Has left) (Has right) in
    let Elements = λ (v : Valuation) (x : Element). OperatorHas b.Difference (Has left v) (Has right v) x in
    let says = operator_says left right g h r c.args.operator b.Difference c.in-Difference.is (
      over names Elements r made.params made.elements,
      made.elements,
      always r (¬ Wide) (λ wide. wide.5),
      worked_units names Wide g h _ (λ wide. wide.5) r made.units,
    ) in
    record {
      written = says.0;
      kept = made.kept;
      params = made.params;
      elements = says.1;
      definitions = λ free. absurd (false≢true (sym free ∙ ap operator_works c.in-Difference.is));
      numbers = made.numbers;
      narrow = says.2;
      units = says.3;
    }

pub returns-in-RangeIntersection : goal.returns-in-RangeIntersection
returns-in-RangeIntersection c =
    let left = c.args.left.now in
    let right = c.args.right.now in
    let names = joined left.params right.params in
    let g = c.args.meter.now in
    let h = c.restrict_range.new.meter in
    let r = c.restrict_range.result in
    let made = c.restrict_range.ensures in
    let Wide = PairsWide (OperatorForms b.RangeIntersection) (Has left) (Has right) in
    let Elements = λ (v : Valuation) (x : Element). OperatorHas b.RangeIntersection (Has left v) (Has right v) x in
    let says = operator_says left right g h r c.args.operator b.RangeIntersection c.in-RangeIntersection.is (
      over names Elements r made.params made.elements,
      made.elements,
      always r (¬ Wide) (λ wide. wide.5),
      worked_units names Wide g h _ (λ wide. wide.5) r made.units,
    ) in
    record {
      written = says.0;
      kept = made.kept;
      params = made.params;
      elements = says.1;
      definitions = λ free. absurd (false≢true (sym free ∙ ap operator_works c.in-RangeIntersection.is));
      numbers = made.numbers;
      narrow = says.2;
      units = says.3;
    }

pub returns-in-RangeDifference : goal.returns-in-RangeDifference
returns-in-RangeDifference c =
    let left = c.args.left.now in
    let right = c.args.right.now in
    let names = joined left.params right.params in
    let g = c.args.meter.now in
    let h = c.remove_range.new.meter in
    let r = c.remove_range.result in
    let made = c.remove_range.ensures in
    let Wide = PairsWide (OperatorForms b.RangeDifference) (Has left) (Has right) in
    let Elements = λ (v : Valuation) (x : Element). OperatorHas b.RangeDifference (Has left v) (Has right v) x in
    let says = operator_says left right g h r c.args.operator b.RangeDifference c.in-RangeDifference.is (
      over names Elements r made.params made.elements,
      made.elements,
      always r (¬ Wide) (λ wide. wide.5),
      worked_units names Wide g h _ (λ wide. wide.5) r made.units,
    ) in
    record {
      written = says.0;
      kept = made.kept;
      params = made.params;
      elements = says.1;
      definitions = λ free. absurd (false≢true (sym free ∙ ap operator_works c.in-RangeDifference.is));
      numbers = made.numbers;
      narrow = says.2;
      units = says.3;
    }

pub returns-in-Cross : goal.returns-in-Cross
returns-in-Cross c =
    let left = c.args.left.now in
    let right = c.args.right.now in
    let names = joined left.params right.params in
    let g = c.args.meter.now in
    let h = c.paired.new.meter in
    let r = c.paired.result in
    let made = c.paired.ensures in
    let Wide = PairsWide (OperatorForms b.Cross) (Has left) (Has right) in
    let Elements = λ (v : Valuation) (x : Element). OperatorHas b.Cross (Has left v) (Has right v) x in
    let says = operator_says left right g h r c.args.operator b.Cross c.in-Cross.is (
      over names Elements r made.params made.elements,
      made.elements,
      formed_narrow r _ Wide _ Wide _ (λ never. never) made.units,
      worked_result names Wide g h r made.units,
    ) in
    record {
      written = says.0;
      kept = made.kept;
      params = made.params;
      elements = says.1;
      definitions = λ free. absurd (false≢true (sym free ∙ ap operator_works c.in-Cross.is));
      numbers = made.numbers;
      narrow = says.2;
      units = says.3;
    }

pub returns-in-Join : goal.returns-in-Join
returns-in-Join c =
    let left = c.args.left.now in
    let right = c.args.right.now in
    let names = joined left.params right.params in
    let g = c.args.meter.now in
    let h = c.join.new.meter in
    let r = c.join.result in
    let made = c.join.ensures in
    let Wide = PairsWide (OperatorForms b.Join) (Has left) (Has right) in
    let Elements = λ (v : Valuation) (x : Element). OperatorHas b.Join (Has left v) (Has right v) x in
    let wider = pairs_wide FormsJoin left right c.pieces-left.ensures.kept c.pieces-right.ensures.kept in
    let narrow = formed_narrow r _ (PairsTooWide FormsJoin left right) _ Wide _ (pairs_narrow FormsJoin left right) made.units in
    let says = operator_says left right g h r c.args.operator b.Join c.in-Join.is (
      over names Elements r made.params made.elements,
      made.elements,
      narrow,
      formed_units names Wide g h (PairsTooWide FormsJoin left right) _ _ (charge _ g h) wider (pairs_narrow FormsJoin left right) r
          made.units,
    ) in
    record {
      written = says.0;
      kept = made.kept;
      params = made.params;
      elements = says.1;
      definitions = λ free. absurd (false≢true (sym free ∙ ap operator_works c.in-Join.is));
      numbers = made.numbers;
      narrow = says.2;
      units = says.3;
    }

pub returns-in-Universal : goal.returns-in-Universal
returns-in-Universal c =
    let left = c.args.left.now in
    let right = c.args.right.now in
    let names = joined left.params right.params in
    let g = c.args.meter.now in
    let h = c.universal.new.meter in
    let r = c.universal.result in
    let made = c.universal.ensures in
    let Wide = PairsWide (OperatorForms b.Universal) (Has left) (Has right) in
    let Elements = λ (v : Valuation) (x : Element). OperatorHas b.Universal (Has left v) (Has right v) x in
    let wider = pairs_wide FormsUniversal left right c.pieces-left.ensures.kept c.pieces-right.ensures.kept in
    let narrow = formed_narrow r _ (PairsTooWide FormsUniversal left right) _ Wide _ (pairs_narrow FormsUniversal left right) made.units in
    let says = operator_says left right g h r c.args.operator b.Universal c.in-Universal.is (
      over names Elements r made.params made.elements,
      made.elements,
      narrow,
      formed_units names Wide g h (PairsTooWide FormsUniversal left right) _ _ (charge _ g h) wider
          (pairs_narrow FormsUniversal left right) r
          made.units,
    ) in
    record {
      written = says.0;
      kept = made.kept;
      params = made.params;
      elements = says.1;
      definitions = λ free. absurd (false≢true (sym free ∙ ap operator_works c.in-Universal.is));
      numbers = made.numbers;
      narrow = says.2;
      units = says.3;
    }

pub returns-in-LexLess : goal.returns-in-LexLess
returns-in-LexLess c =
    let left = c.args.left.now in
    let right = c.args.right.now in
    let names = joined left.params right.params in
    let g = c.args.meter.now in
    let h = c.paired-in-LexLess.new.meter in
    let r = c.paired-in-LexLess.result in
    let made = c.paired-in-LexLess.ensures in
    let Wide = PairsWide (OperatorForms b.LexLess) (Has left) (Has right) in
    let Elements = λ (v : Valuation) (x : Element). OperatorHas b.LexLess (Has left v) (Has right v) x in
    let says = operator_says left right g h r c.args.operator b.LexLess c.in-LexLess.is (
      over names Elements r made.params made.elements,
      made.elements,
      formed_narrow r _ Wide _ Wide _ (λ never. never) made.units,
      worked_result names Wide g h r made.units,
    ) in
    record {
      written = says.0;
      kept = made.kept;
      params = made.params;
      elements = says.1;
      definitions = λ free. absurd (false≢true (sym free ∙ ap operator_works c.in-LexLess.is));
      numbers = made.numbers;
      narrow = says.2;
      units = says.3;
    }

pub returns-in-LexLessEqual : goal.returns-in-LexLessEqual
returns-in-LexLessEqual c =
    let left = c.args.left.now in
    let right = c.args.right.now in
    let names = joined left.params right.params in
    let g = c.args.meter.now in
    let h = c.paired-in-LexLessEqual.new.meter in
    let r = c.paired-in-LexLessEqual.result in
    let made = c.paired-in-LexLessEqual.ensures in
    let Wide = PairsWide (OperatorForms b.LexLessEqual) (Has left) (Has right) in
    let Elements = λ (v : Valuation) (x : Element). OperatorHas b.LexLessEqual (Has left v) (Has right v) x in
    let says = operator_says left right g h r c.args.operator b.LexLessEqual c.in-LexLessEqual.is (
      over names Elements r made.params made.elements,
      made.elements,
      formed_narrow r _ Wide _ Wide _ (λ never. never) made.units,
      worked_result names Wide g h r made.units,
    ) in
    record {
      written = says.0;
      kept = made.kept;
      params = made.params;
      elements = says.1;
      definitions = λ free. absurd (false≢true (sym free ∙ ap operator_works c.in-LexLessEqual.is));
      numbers = made.numbers;
      narrow = says.2;
      units = says.3;
    }

pub returns-in-LexGreater : goal.returns-in-LexGreater
returns-in-LexGreater c =
    let left = c.args.left.now in
    let right = c.args.right.now in
    let names = joined left.params right.params in
    let g = c.args.meter.now in
    let h = c.paired-in-LexGreater.new.meter in
    let r = c.paired-in-LexGreater.result in
    let made = c.paired-in-LexGreater.ensures in
    let Wide = PairsWide (OperatorForms b.LexGreater) (Has left) (Has right) in
    let Elements = λ (v : Valuation) (x : Element). OperatorHas b.LexGreater (Has left v) (Has right v) x in
    let says = operator_says left right g h r c.args.operator b.LexGreater c.in-LexGreater.is (
      over names Elements r made.params made.elements,
      made.elements,
      formed_narrow r _ Wide _ Wide _ (λ never. never) made.units,
      worked_result names Wide g h r made.units,
    ) in
    record {
      written = says.0;
      kept = made.kept;
      params = made.params;
      elements = says.1;
      definitions = λ free. absurd (false≢true (sym free ∙ ap operator_works c.in-LexGreater.is));
      numbers = made.numbers;
      narrow = says.2;
      units = says.3;
    }

pub returns-in-LexGreaterEqual : goal.returns-in-LexGreaterEqual
returns-in-LexGreaterEqual c =
    let left = c.args.left.now in
    let right = c.args.right.now in
    let names = joined left.params right.params in
    let g = c.args.meter.now in
    let h = c.paired-in-LexGreaterEqual.new.meter in
    let r = c.paired-in-LexGreaterEqual.result in
    let made = c.paired-in-LexGreaterEqual.ensures in
    let Wide = PairsWide (OperatorForms b.LexGreaterEqual) (Has left) (Has right) in
    let Elements = λ (v : Valuation) (x : Element). OperatorHas b.LexGreaterEqual (Has left v) (Has right v) x in
    let says = operator_says left right g h r c.args.operator b.LexGreaterEqual c.in-LexGreaterEqual.is (
      over names Elements r made.params made.elements,
      made.elements,
      formed_narrow r _ Wide _ Wide _ (λ never. never) made.units,
      worked_result names Wide g h r made.units,
    ) in
    record {
      written = says.0;
      kept = made.kept;
      params = made.params;
      elements = says.1;
      definitions = λ free. absurd (false≢true (sym free ∙ ap operator_works c.in-LexGreaterEqual.is));
      numbers = made.numbers;
      narrow = says.2;
      units = says.3;
    }

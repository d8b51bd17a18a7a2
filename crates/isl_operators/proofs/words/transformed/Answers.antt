use Rattle.isl_operators.proofs.words.transformed.Goals as goal

pub returns-in_ok-lexmin-in-LexMin-clause-written : goal.returns-in_ok-lexmin-in-LexMin-clause-written
returns-in_ok-lexmin-in-LexMin-clause-written c =
    let made = c.in_ok-lexmin-in-LexMin.ensures in
    rw c.in-LexMin.is (record { params = made.params; elements = made.elements })

pub returns-in_ok-lexmin-in-LexMin-clause-elements : goal.returns-in_ok-lexmin-in-LexMin-clause-elements
returns-in_ok-lexmin-in-LexMin-clause-elements c = rw c.in-LexMin.is c.in_ok-lexmin-in-LexMin.ensures.elements

pub returns-in_ok-lexmax-in-LexMax-clause-written : goal.returns-in_ok-lexmax-in-LexMax-clause-written
returns-in_ok-lexmax-in-LexMax-clause-written c =
    let made = c.in_ok-lexmax-in-LexMax.ensures in
    rw c.in-LexMax.is (record { params = made.params; elements = made.elements })

pub returns-in_ok-lexmax-in-LexMax-clause-elements : goal.returns-in_ok-lexmax-in-LexMax-clause-elements
returns-in_ok-lexmax-in-LexMax-clause-elements c = rw c.in-LexMax.is c.in_ok-lexmax-in-LexMax.ensures.elements

pub returns-in_ok-put_together-in-Coalesce-clause-written : goal.returns-in_ok-put_together-in-Coalesce-clause-written
returns-in_ok-put_together-in-Coalesce-clause-written c =
    let made = c.in_ok-put_together-in-Coalesce.ensures in
    rw c.in-Coalesce.is (record { any = record { params = made.params; elements = made.elements }; coalesced = made.coalesced })

pub returns-in_ok-put_together-in-Coalesce-clause-elements : goal.returns-in_ok-put_together-in-Coalesce-clause-elements
returns-in_ok-put_together-in-Coalesce-clause-elements c = rw c.in-Coalesce.is c.in_ok-put_together-in-Coalesce.ensures.elements

pub returns-in_ok-affine_hull-in-AffineHull-clause-written : goal.returns-in_ok-affine_hull-in-AffineHull-clause-written
returns-in_ok-affine_hull-in-AffineHull-clause-written c = rw c.in-AffineHull.is c.in_ok-affine_hull-in-AffineHull.ensures.exact

pub returns-in_ok-affine_hull-in-AffineHull-clause-params : goal.returns-in_ok-affine_hull-in-AffineHull-clause-params
returns-in_ok-affine_hull-in-AffineHull-clause-params c = c.in_ok-affine_hull-in-AffineHull.ensures.exact.params

pub returns-in_ok-affine_hull-in-AffineHull-clause-elements : goal.returns-in_ok-affine_hull-in-AffineHull-clause-elements
returns-in_ok-affine_hull-in-AffineHull-clause-elements c =
    rw c.in-AffineHull.is c.in_ok-affine_hull-in-AffineHull.ensures.exact.elements

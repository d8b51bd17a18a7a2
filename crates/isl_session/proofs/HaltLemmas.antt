-- How a session stops, piece after piece.
use Rattle.std.proofs.Common.{◌≡◌, ℕ, ◌+◌, ◌<◌, ◌≤◌, List, [], ◌∷◌, ◌++◌, length, take, refl, sym, ◌∙◌, ap, subst, arith, Some}
use Rattle.std.proofs.lemmas.List.{append-nil, append_assoc}
use Rattle.isl_words.specs.Options.{OptionsView}
use Rattle.isl_script.specs.Script.{IsBlank}
use Rattle.isl_refusal.specs.declared.refusal.Refusal.TheVariants.{Unfinished}
use Rattle.isl_session.specs.declared.fault.Fault.{Fault}
use Rattle.isl_refusal.specs.Refusal.{Place, at_words, in_statement, too_long, past_limit, at_end, at_read, at_write, anywhere, place_of}
use Rattle.isl_values.specs.State.{Moment}
use Rattle.isl_session.specs.Outcome.{Outcome, answered, skipped, EndsRun, first_skip, text_of}
use Rattle.isl_session.specs.View.{View, Fed, Stopped, BreaksIn, opened, passed}
use Rattle.isl_session.specs.Run.{Halts, IsCutShort, StopsIn}
use Rattle.isl_session.proofs.OutcomeLemmas.{text_of-append}
use Rattle.isl_session.proofs.RunLemmas.{Fed-append}

-- a session that took a piece, and was refused in the next
pub Stopped-append : (a : View) (x : List ℕ) (ps : List Outcome) (b : View) (y z : List ℕ) (qs : List Outcome) (c : View) (fault : Fault)
    → Fed a x ps b → Stopped b y qs c fault → Stopped a (x ++ (y ++ z)) (ps ++ qs) c fault
Stopped-append a x ps b y z qs c fault fed stopped = record {
  front = x ++ stopped.front;
  byte = stopped.byte;
  behind = stopped.behind ++ z;
  split = ap (λ (l : List ℕ). x ++ (l ++ z)) stopped.split
      ∙ ap (λ (l : List ℕ). x ++ l) (append_assoc stopped.front (stopped.byte ∷ stopped.behind) z)
      ∙ sym (append_assoc x stopped.front (stopped.byte ∷ (stopped.behind ++ z)));
  at_front = stopped.at_front;
  fed = Fed-append a x ps b stopped.front qs stopped.at_front fed stopped.fed;
  breaks = stopped.breaks;
  ends_run = subst (λ (o : OptionsView). EndsRun o fault.refusal) fed.options stopped.ends_run;
  number = stopped.number;
  same = stopped.same;
  meter = stopped.meter;
  room = stopped.room;
}

-- answers that went out whole, and then some of which the last did not
pub CutShort-append : (ps qs : List Outcome) (gained : List ℕ) → IsCutShort qs gained → IsCutShort (ps ++ qs) (text_of ps ++ gained)
CutShort-append ps qs gained cut = record {
  earlier = ps ++ cut.earlier;
  final = cut.final;
  split = ap (λ (l : List Outcome). ps ++ l) cut.split ∙ sym (append_assoc ps cut.earlier (answered cut.final ∷ []));
  count = cut.count;
  short = cut.short;
  is = ap (λ (l : List ℕ). text_of ps ++ l) cut.is ∙ sym (append_assoc (text_of ps) (text_of cut.earlier) (take cut.count cut.final.bytes))
      ∙ ap (λ (l : List ℕ). l ++ take cut.count cut.final.bytes) (sym (text_of-append ps cut.earlier));
}

-- a text that was cut short, of at most one answer
pub cut_one : (outcomes : List Outcome) (n : ℕ) → length outcomes ≤ 1 → n < length (text_of outcomes)
    → IsCutShort outcomes (take n (text_of outcomes))
cut_one [] n few short = absurd (omega arith)
cut_one (answered a ∷ []) n few short = record {
  earlier = [];
  final = a;
  split = refl;
  count = n;
  short = omega (arith, short, ap length (append-nil a.bytes));
  is = ap (λ (l : List ℕ). take n l) (append-nil a.bytes);
}
cut_one (skipped refusal ∷ []) n few short = absurd (omega (arith, short))
cut_one (a ∷ b ∷ more) n few short = absurd (omega arith)

-- a refusal at a byte is one of the session
module _ (read_failed write_failed ended : Type 0) where
  pub halts_stopped : (old : View) (piece gained : List ℕ) (outcomes : List Outcome) (new : View) (fault : Fault)
      → gained ≡ text_of outcomes → Stopped old piece outcomes new fault
      → Halts read_failed write_failed ended old piece outcomes gained new fault (place_of fault.refusal)
  halts_stopped old piece gained outcomes new fault is stopped = go (place_of fault.refusal) stopped.breaks
    where
      go : (place : Place) → BreaksIn place stopped.at_front stopped.byte new.meter fault.refusal
          → Halts read_failed write_failed ended old piece outcomes gained new fault place
      go at_words breaks = absurd breaks
      go at_end breaks = absurd breaks
      go at_read breaks = absurd breaks
      go at_write breaks = absurd breaks
      go in_statement breaks = (is, stopped)
      go too_long breaks = (is, stopped)
      go past_limit breaks = (is, stopped)
      go anywhere breaks = (is, stopped)

  -- the same, after a piece that was taken
  module _ (write_failed_now : Type 0) (write_on : write_failed_now → write_failed) (a : View) (x : List ℕ) (ps : List Outcome) (b : View)
      (y z : List ℕ) (qs : List Outcome) (gained : List ℕ) (c : View) (fault : Fault) (fed : Fed a x ps b) where
    stopped_on : StopsIn b y qs gained c fault → StopsIn a (x ++ (y ++ z)) (ps ++ qs) (text_of ps ++ gained) c fault
    stopped_on h = (
      ap (λ (l : List ℕ). text_of ps ++ l) h.0 ∙ sym (text_of-append ps qs),
      Stopped-append a x ps b y z qs c fault fed h.1,
    )

    pub halts_on : (place : Place) → Halts ⊥ write_failed_now ⊥ b y qs gained c fault place
        → Halts read_failed write_failed ended a (x ++ (y ++ z)) (ps ++ qs) (text_of ps ++ gained) c fault place
    halts_on at_words halts = absurd halts
    halts_on at_read halts = absurd halts.0
    halts_on at_end halts = absurd halts.0
    halts_on at_write halts =
        let h = halts.2 in (
          write_on halts.0,
          halts.1,
          (
            x ++ h.0,
            h.1 ++ z,
            ap (λ (l : List ℕ). x ++ (l ++ z)) h.2 ∙ ap (λ (l : List ℕ). x ++ l) (append_assoc h.0 h.1 z)
                ∙ sym (append_assoc x h.0 (h.1 ++ z)),
            CutShort-append ps qs gained h.3,
            Fed-append a x ps b h.0 qs c fed h.4,
          ),
        )
    halts_on in_statement halts = stopped_on halts
    halts_on too_long halts = stopped_on halts
    halts_on past_limit halts = stopped_on halts
    halts_on anywhere halts = stopped_on halts

stopped_first : (first : Moment) (taken : List ℕ) (outcomes : List Outcome) (new : View) (fault : Fault)
    → Stopped (opened first) taken outcomes new fault → new.first ≡ first_skip outcomes
stopped_first first taken outcomes new fault stopped = ap (λ (v : View). v.first) stopped.same ∙ stopped.fed.first

-- why the first statement was skipped, as a session knows it that stopped so
pub halts_first : (read_failed write_failed ended : Type 0) (first : Moment) (taken : List ℕ) (outcomes : List Outcome) (gained : List ℕ)
    (new : View) (fault : Fault) (place : Place)
    → Halts read_failed write_failed ended (opened first) taken outcomes gained new fault place → new.first ≡ first_skip outcomes
halts_first read_failed write_failed ended first taken outcomes gained new fault at_words h = absurd h
halts_first read_failed write_failed ended first taken outcomes gained new fault at_read h = h.3.first
halts_first read_failed write_failed ended first taken outcomes gained new fault at_write h = h.2.4.first
halts_first read_failed write_failed ended first taken outcomes gained new fault at_end h = ap (λ (v : View). v.first) h.1.5 ∙ h.1.2.first
halts_first read_failed write_failed ended first taken outcomes gained new fault in_statement h =
    stopped_first first taken outcomes new fault h.1
halts_first read_failed write_failed ended first taken outcomes gained new fault too_long h =
    stopped_first first taken outcomes new fault h.1
halts_first read_failed write_failed ended first taken outcomes gained new fault past_limit h =
    stopped_first first taken outcomes new fault h.1
halts_first read_failed write_failed ended first taken outcomes gained new fault anywhere h =
    stopped_first first taken outcomes new fault h.1

-- where it may also stop at the end
pub halts_wider : (read_failed write_failed ended : Type 0) (old : View) (taken : List ℕ) (outcomes : List Outcome) (gained : List ℕ)
    (new : View) (fault : Fault) (place : Place) → Halts read_failed write_failed ⊥ old taken outcomes gained new fault place
    → Halts read_failed write_failed ended old taken outcomes gained new fault place
halts_wider read_failed write_failed ended old taken outcomes gained new fault at_words h = h
halts_wider read_failed write_failed ended old taken outcomes gained new fault at_read h = h
halts_wider read_failed write_failed ended old taken outcomes gained new fault at_write h = h
halts_wider read_failed write_failed ended old taken outcomes gained new fault at_end h = absurd h.0
halts_wider read_failed write_failed ended old taken outcomes gained new fault in_statement h = h
halts_wider read_failed write_failed ended old taken outcomes gained new fault too_long h = h
halts_wider read_failed write_failed ended old taken outcomes gained new fault past_limit h = h
halts_wider read_failed write_failed ended old taken outcomes gained new fault anywhere h = h

-- and there it stops where the rest is not blank
pub halts_finished : (read_failed write_failed ended : Type 0) (old : View) (taken : List ℕ) (outcomes : List Outcome) (before new : View)
    (fault : Fault) → Fed old taken outcomes before → ended → ¬ IsBlank before.rest
    → fault ≡ record { statement = passed before + 1; refusal = Unfinished } → new ≡ record before { fault = Some fault }
    → Halts read_failed write_failed ended old taken outcomes (text_of outcomes) new fault (place_of fault.refusal)
halts_finished read_failed write_failed ended old taken outcomes before new fault fed end rest is same =
    subst (λ (p : Place). Halts read_failed write_failed ended old taken outcomes (text_of outcomes) new fault p)
    (sym (ap (λ (f : Fault). place_of f.refusal) is)) (end, (before, refl, fed, rest, ap (λ (f : Fault). f.statement) is, same))

-- NUMBERS ALONG A RUN: as many as a lane saw drawn are in the history; and a lane whose call has no
-- number has its generation in every image.
use Rattle.std.proofs.Common.{◌≡◌, ⊎_elim, ℕ, suc, ◌<◌, ◌≤◌, Bool, true, false, Contains, List, []}
use Rattle.std.proofs.Common.{◌∷◌, refl, sym, ap, ◌∙◌, subst, arith}
use Rattle.std.proofs.lemmas.Bool.{cases_eq}
use Rattle.pm_image.specs.Logs.{generation_word}
use Rattle.pm_view.specs.Log.{Phase, Idle, Open, Drawn, Sealing, Applying, Clearing, Retiring}
use Rattle.pm_view.specs.Log.{Voiding, is_early}
use Rattle.pm_view.specs.Changes.{Undrained, drained}
use Rattle.pm_view.specs.Parts.{Part, DescriptorPart}
use Rattle.pm_view.specs.Steps.{Step}
use Rattle.pm_view.specs.Steps.Step.{Load, Store, Or, And, Flush, Drain, TakeWrite, TakeRead}
use Rattle.pm_view.specs.Steps.Step.{Raise, Give, ZoneTry, ZoneGive, Occupied, Occupy, Vacate}
use Rattle.pm_view.specs.Steps.Step.{Draw, NumberSeen, StopSeen, SetStop, Tell}
use Rattle.pm_view.specs.View.{View}
use Rattle.pm_view.specs.Views.{part_in}
use Rattle.pm_view.specs.declared.occ.Occ.{Occ}
use Rattle.pm_world.specs.Course.{past_after, past_decided, past_drained, past_made, past_occupied}
use Rattle.pm_world.specs.Course.{past_stored}
use Rattle.pm_world.specs.Moves.{Moves}
use Rattle.pm_world.specs.Runs.{IsRun, IsWorld, LaneStep, Leads, Moment}
use Rattle.pm_world.specs.World.{Opening, Past, Views}
use Rattle.pm_world.proofs.RunsKept.{next_world}
use Rattle.pm_world.proofs.SurvivingWords.{GenerationIs, generation_is}
use Rattle.pm_shared.specs.Closings.{Closes}
use Rattle.pm_shared.specs.declared.rule.Beginning.{Beginning}
use Rattle.pm_shared.specs.Openings.{idle_view, opening_of}
use Rattle.pm_lanes.specs.Closed.{GenerationsAreKept, SeenNumbersAreDrawn}
use Rattle.pm_lanes.proofs.Stops.{saw_so}

-- the history goes on: a draw makes it longer, and no other step changes its length
stored_length : (phase : Phase) (part : Part) (x : ℕ) (g : Past)
    → (past_stored phase part x g).length ≡ g.length
stored_length Open (DescriptorPart c) x g = refl
stored_length phase part x g = refl

decided_length : (phase : Phase) (v : View) (g : Past) → (past_decided phase v g).length ≡ g.length
decided_length (Sealing n) v g = refl
decided_length (Retiring n) v g = refl
decided_length phase v g = refl

drained_length : (g : Past) (v : View) (left : List Undrained)
    → (past_drained g v left).length ≡ g.length
drained_length g v [] = decided_length v.log.phase v (past_made g v [])
drained_length g v (c ∷ left) = refl

occupied_length : (won : Bool) (g : Past) (v : View) (at : Occ) (bits : ℕ)
    → (past_occupied won g v at bits).length ≡ g.length
occupied_length true g v at bits = refl
occupied_length false g v at bits = refl

as_long : (n m : ℕ) → n ≡ m → m ≤ n
as_long n m is = omega (arith, is)

longer : (g : Past) (v : View) (s : Step) → g.length ≤ (past_after g v s).length
longer g v (Store w x) = as_long (past_after g v (Store w x)).length g.length
    (stored_length v.log.phase (part_in v w) x g)
longer g v Drain = as_long (past_after g v Drain).length g.length
    (drained_length g v (drained v.changes))
longer g v (Occupy at bits won) = as_long (past_after g v (Occupy at bits won)).length g.length
    (occupied_length won g v at bits)
longer g v s = omega arith

abbrev NumbersShow : Moment → Type 0
NumbersShow m = (k n : ℕ) → Contains (m.views k).seen (NumberSeen n) → n ≤ m.past.length

module _ (o : Opening) (old next : Moment) (t : LaneStep) (led : Leads o old t next)
    (x : IsWorld o old) where
  grown : old.past.length ≤ next.past.length
  grown = subst (λ (g : Past). old.past.length ≤ g.length) (sym led.past)
      (longer old.past (old.views t.lane) t.step)

  -- as many as it sees were drawn
  seen_now : (n : ℕ) → t.step ≡ NumberSeen n → n ≤ old.past.length
  seen_now n is =
      let moved : Moves t.lane (NumberSeen n) old.mem next.mem =
      subst (λ (s : Step). Moves t.lane s old.mem next.mem) is led.moves in
      let e : n ≡ old.past.length = moved.1 ∙ x.bits.counter in omega (arith, e)

  show : NumbersShow old → NumbersShow next
  show known k n saw =
      let before : n ≤ old.past.length = ⊎_elim
      (λ (e : k ≡ t.lane). ⊎_elim (seen_now n) (known t.lane n)
      (saw_so (old.views t.lane) t.step (NumberSeen n)
      (subst (λ (v : View). Contains v.seen (NumberSeen n)) led.view.here
      (subst (λ i. Contains (next.views i).seen (NumberSeen n)) e saw))))
      (λ (ne : k ≡ t.lane → ⊥). known k n
      (subst (λ (v : View). Contains v.seen (NumberSeen n)) (led.view.else_ k ne) saw))
      (cases_eq k t.lane) in
      let more = grown in omega (arith, before, more)

along : (o : Opening) (turns : List LaneStep) (old new : Moment) → IsWorld o old
    → IsRun o old turns new → NumbersShow old → NumbersShow new
unfolding IsRun
along o [] old new x r h = subst NumbersShow (sym r) h
along o (t ∷ rest) old new x r h =
    let led : Leads o old t r.0 = r.1 in
    along o rest r.0 new (next_world o t old r.0 x led) r.2 (show o old r.0 t led x h)

pub drawn : SeenNumbersAreDrawn
drawn b back words n v count closed there saw =
    let is = closed.lanes n v there in
    along (opening_of b) closed.run.turns closed.run.begun closed.last closed.run.begins.world
    closed.run.run
    (λ k m s. absurd (unseen closed.run.begun.views closed.run.begins.views_are k m s))
    v.fixed.lane count
    (subst (λ (u : View). Contains u.seen (NumberSeen count)) (sym is.1) saw)
  where
    -- lanes begin with nothing seen
    unseen : (vs : Views) → vs ≡ idle_view b → (k m : ℕ) → Contains (vs k).seen (NumberSeen m) → ⊥
    unseen vs is k m s =
        let none : Contains (idle_view b k).seen (NumberSeen m) =
        subst (λ (us : Views). Contains (us k).seen (NumberSeen m)) is s in
        omega (arith, none.1)

-- ---- THE GENERATION

-- of an early phase the image has the generation as it was
early : (before found : ℕ) (phase : Phase) → is_early phase ≡ true
    → GenerationIs before found phase → found ≡ before
early before found Idle is g = g
early before found Open is g = g
early before found (Drawn n) is g = cc
early before found (Sealing n) is g = cc
early before found (Applying todo) is g = cc
early before found Clearing is g = cc
early before found (Retiring n) is g = cc
early before found Voiding is g = cc

pub generation : GenerationsAreKept
generation b back words image n v closed survives there is =
    let own = closed.lanes n v there in
    let some = closed.world.most_lanes in
    let of_pool : v.fixed.lane < b.shape.lanes = let low = own.0 in omega (arith, low, some) in
    let here : GenerationIs v.log.generation (generation_word image v.fixed.lane) v.log.phase =
    subst (λ (u : View). GenerationIs u.log.generation (generation_word image v.fixed.lane) u.log.phase)
    own.1 (generation_is (opening_of b) closed.last.mem closed.last.views closed.last.past
    closed.world image survives v.fixed.lane of_pool) in
    early v.log.generation (generation_word image v.fixed.lane) v.log.phase is here

-- A fact is of a call's shape, pool and lane, of its claims, log, operations and earlier entries: so an
-- entry of a lane keeps it, and so does the history that the lanes' entries make.
use Rattle.std.proofs.Common.{inl, inr, ◌≡◌, ◌≢◌, ⊎_elim, ℕ, zero, suc, ◌<◌, ◌==◌, Bool, true, false, cond, List, [], ◌∷◌, ◌++◌, Option, None, Some, refl, sym, ap, ◌∙◌, subst, arith}
use Rattle.std.proofs.lemmas.Bool.{both_ways, cases_eq, eq-eqb}
use Rattle.pm_objects.specs.declared.calls.Operation.{Operation}
use Rattle.pm_objects.specs.declared.history.Value.TheVariants.{Refused}
use Rattle.pm_objects.specs.declared.refusal.Refusal.TheVariants.{Busy, NoObject}
use Rattle.pm_model.specs.Inside.{wants_of}
use Rattle.pm_view.specs.Steps.{Step}
use Rattle.pm_view.specs.View.{View, Constants, Told, entry_drawn, idle}
use Rattle.pm_world.specs.States.{State as Bits}
use Rattle.pm_world.specs.World.{numbered_by}
use Rattle.pm_crash.specs.Calls.{Fact}
use Rattle.pm_crash.specs.Facts.{BusyWasTried, MissWasSeen, WasTried, DrawsKeepFacts, EntriesHaveFacts, HistoriesHaveFacts, HistoriesSawMisses, HistoriesTriedLocks, last_of, last_or, view_drawn}
use Rattle.pm_crash.specs.Footprints.{MayPrecede}
use Rattle.pm_crash.specs.Missed.{LacksObject, WhyNoObject, before_last, lists_before}

-- the other view, with what a call's fact is of
abbrev with_call : View → View → View
with_call v other = record other {
  fixed = record other.fixed { shape = v.fixed.shape; pool = v.fixed.pool; lane = v.fixed.lane };
  claims = v.claims;
  log = v.log;
  call = v.call;
  entries = v.entries;
}

may_precede : (v other : View) (classes : ℕ → ℕ) (s : Bits) → MayPrecede classes (with_call v other) s → MayPrecede classes v s
may_precede v other classes s x = record {
  found = x.found;
  spans = x.spans;
  whole = x.whole;
  plain = x.plain;
  class = x.class;
  known = x.known;
  apart = x.apart;
  roots = x.roots;
}

same_fact : (v other : View) → Fact v → Fact (with_call v other)
same_fact v other fact classes s header pool pending x holds id lane =
    let y = fact classes s header pool pending (may_precede v other classes s x) holds id lane in
    record {
      next = y.next;
      holds = y.holds;
      run = y.run;
      is_run = record { lane = y.is_run.lane; told = y.is_run.told };
      steps = y.steps;
    }

same_miss : (v other : View) → MissWasSeen v → MissWasSeen (with_call v other)
same_miss v other missed op last = ⊎_elim
    (λ (lacks : LacksObject v op). inl (record { id = lacks.id; named = lacks.named; why = lacks.why }))
    (λ (late : (lists_before v).pending.late ≡ true). inr late)
    (missed op last)

-- ---- A CALL TAKES ITS NUMBER

pub draws_keep_facts : DrawsKeepFacts
unfolding EntriesHaveFacts
draws_keep_facts v n fact tried missed facts = ((same_fact v (idle v.fixed v.log.generation) fact, tried, same_miss v (idle v.fixed v.log.generation) missed), facts)

-- the operation told last is the last
pub last_told : (call : List Told) (t : Told) → last_of (call ++ t ∷ []) ≡ Some t
last_told [] t = refl
last_told (s ∷ call) t = ap (last_or s) (last_told call t)

-- so it is what the last of the call is
told_as : (call : List Told) (t other : Told) → last_of (call ++ t ∷ []) ≡ Some other → t ≡ other
told_as call t other last = ap (told_in t) (sym (last_told call t) ∙ last)
  where
    told_in : Told → Option Told → Told
    told_in d None = d
    told_in d (Some s) = s

-- A CALL THAT TELLS THIS LAST has tried a lock, where it tells Busy
pub told_busy : (call : List Told) (t : Told) (seen : List Step) → (t.reply ≡ Some (Refused Busy) → WasTried (wants_of t.operation) seen) → BusyWasTried (call ++ t ∷ []) seen
told_busy call t seen tried op last =
    let same = told_as call t (record { operation = op; reply = Some (Refused Busy) }) last in
    subst (λ (o : Operation). WasTried (wants_of o) seen) (ap (λ (s : Told). s.operation) same) (tried (ap (λ (s : Told). s.reply) same))

-- one that tells no refusal
pub told_plainly : (call : List Told) (op : Operation) (seen : List Step) → BusyWasTried (call ++ record { operation = op; reply = None } ∷ []) seen
told_plainly call op seen = told_busy call (record { operation = op; reply = None }) seen (λ e. absurd (let z : None ≡ Some (Refused Busy) = e in cc))

-- its lane saw why, where its last operation is recorded as NoObject
pub records_miss : (v : View) (call : List Told) (t : Told) → v.call ≡ call ++ t ∷ []
    → (t.reply ≡ Some (Refused NoObject) → WhyNoObject v t.operation) → MissWasSeen v
records_miss v call t is why op last =
    let same = told_as call t (record { operation = op; reply = Some (Refused NoObject) }) (sym (ap last_of is) ∙ last) in
    subst (WhyNoObject v) (ap (λ (s : Told). s.operation) same) (why (ap (λ (s : Told). s.reply) same))

-- one whose last operation is not refused records no miss
pub records_no_miss : (v : View) (call : List Told) (op : Operation) → v.call ≡ call ++ record { operation = op; reply = None } ∷ [] → MissWasSeen v
records_no_miss v call op is = records_miss v call (record { operation = op; reply = None }) is (λ e. absurd (let z : None ≡ Some (Refused NoObject) = e in cc))

-- the operations before the last
pub before_recorded : (call : List Told) (t : Told) → before_last (call ++ t ∷ []) ≡ call
before_recorded [] t = refl
before_recorded (s ∷ []) t = refl
before_recorded (s ∷ next ∷ call) t = ap (λ rest. s ∷ rest) (before_recorded (next ∷ call) t)

-- ---- THE HISTORY

-- the n-th call, as an entry of the lane with this number
abbrev drawn_by : Constants → ℕ → (ℕ → View) → ℕ → View
drawn_by fixed lane drew n = view_drawn fixed (entry_drawn n (drew n)) (numbered_by lane drew n)

abbrev HasOwed : Constants → ℕ → (ℕ → View) → ℕ → Type 0
HasOwed fixed lane drew n = Fact (drawn_by fixed lane drew n)
    × BusyWasTried (drew n).call (drew n).seen × MissWasSeen (drawn_by fixed lane drew n)

-- the entries so far have their facts, with one more or without
with_one : (fixed : Constants) (lane : ℕ) (drew : ℕ → View) (n : ℕ) (b : Bool)
    → EntriesHaveFacts fixed (cond b (entry_drawn n (drew n) ∷ numbered_by lane drew n) (numbered_by lane drew n))
    → (b ≡ true → HasOwed fixed lane drew n) × EntriesHaveFacts fixed (numbered_by lane drew n)
unfolding EntriesHaveFacts
with_one fixed lane drew n true facts = (λ t. facts.0, facts.1)
with_one fixed lane drew n false facts = (λ t. absurd (both_ways false refl t), facts)

each_fact : (fixed : Constants) (lane : ℕ) (drew : ℕ → View) (m : ℕ) → EntriesHaveFacts fixed (numbered_by lane drew m)
    → (n : ℕ) → n < m → (drew n).fixed.lane ≡ lane → HasOwed fixed lane drew n
each_fact fixed lane drew zero facts n l e = absurd (omega arith)
each_fact fixed lane drew (suc m) facts n l e =
    let one = with_one fixed lane drew m ((drew m).fixed.lane == lane) facts in
    ⊎_elim
    (λ (q : n ≡ m). subst (λ (k : ℕ). (drew k).fixed.lane ≡ lane → HasOwed fixed lane drew k) (sym q) (λ same. one.0 (eq-eqb (drew m).fixed.lane lane same)) e)
    (λ (ne : n ≢ m). each_fact fixed lane drew m one.1 n (omega arith) e)
    (cases_eq n m)

pub histories_have_facts : HistoriesHaveFacts
histories_have_facts o id mem views g x footprints facts n l =
    let k : ℕ = (g.drew n).fixed.lane in
    let in_lanes : k < o.lanes = x.of_lanes n l in
    let fits = x.each_lane k in_lanes in
    let fixed : Constants = (views k).fixed in
    let mine : Fact (drawn_by fixed k g.drew n) = (each_fact fixed k g.drew g.length (subst (EntriesHaveFacts fixed) fits.entries (facts k in_lanes)) n l refl).0 in
    subst Fact (λ i. record (g.drew n) {
      fixed = record (g.drew n).fixed {
        shape = (fits.shape ∙ sym (footprints.shapes n l)) i;
        pool = (footprints.ids k in_lanes ∙ sym (footprints.drawn_ids n l)) i;
        lane = fits.lane i;
      };
      entries = sym (footprints.entries n l) i;
    }) (same_fact (drawn_by fixed k g.drew n) (g.drew n) mine)

pub histories_tried_locks : HistoriesTriedLocks
histories_tried_locks o mem views g x facts n l =
    let k : ℕ = (g.drew n).fixed.lane in
    let in_lanes : k < o.lanes = x.of_lanes n l in
    (each_fact (views k).fixed k g.drew g.length (subst (EntriesHaveFacts (views k).fixed) (x.each_lane k in_lanes).entries (facts k in_lanes)) n l refl).1

pub histories_saw_misses : HistoriesSawMisses
histories_saw_misses o id mem views g x footprints facts n l =
    let k : ℕ = (g.drew n).fixed.lane in
    let in_lanes : k < o.lanes = x.of_lanes n l in
    let fits = x.each_lane k in_lanes in
    let mine = (each_fact (views k).fixed k g.drew g.length (subst (EntriesHaveFacts (views k).fixed) fits.entries (facts k in_lanes)) n l refl).2 in
    subst (λ (v : View). MissWasSeen v) (λ i. record (g.drew n) {
      fixed = record (g.drew n).fixed {
        shape = (fits.shape ∙ sym (footprints.shapes n l)) i;
        pool = (footprints.ids k in_lanes ∙ sym (footprints.drawn_ids n l)) i;
        lane = fits.lane i;
      };
      entries = sym (footprints.entries n l) i;
    }) (same_miss (drawn_by (views k).fixed k g.drew n) (g.drew n) mine)

-- The locks that were taken for a plan are of its lines, and objects are looked for under them.
use Rattle.std.proofs.Common.{◌≡◌, ◌⊎◌, ℕ, ◌+◌, ◌*◌, ◌/◌, ◌<◌, Bool, true, Contains, List, [], ◌∷◌, map, drop, get_or, length, Option, refl, sym, ap, ◌∙◌, subst, arith}
use Rattle.std.specs.List.{AllByRecursion}
use Rattle.std.specs.Prelude.{IfSome}
use Rattle.std.proofs.Math.ListN.{get_or-map}
use Rattle.std.proofs.lemmas.List.{length-map}
use Rattle.std.proofs.lemmas.Simd.{map-map}
use Rattle.solo_crash.specs.OpenCall.{lock_of as model_lock}
use Rattle.pm_layout.specs.declared.shape.Shape.{Shape}
use Rattle.solo_view.specs.Blocks.{is_chunk}
use Rattle.solo_view.specs.View.{View, Lock}
use Rattle.solo_world.specs.Lanes.{lock_of}
use Rattle.solo_world.specs.declared.lane.HeldLock.{HeldLock}
use Rattle.solo_world.specs.declared.lane.Lane.{Lane}
use Rattle.solo_lock.specs.Locking.{HasTaken}
use Rattle.solo_lock.proofs.Leads.{led_then}
use Rattle.solo_lock.proofs.MarkedPages.{unfit_lacks}
use Rattle.solo_lock.proofs.OnlyLooking.{begun_looks}
use Rattle.solo_lock.specs.Begun.{IsBegun}
use Rattle.solo_lock.specs.Finding.{HasFound, HasLines, HasLooked, IsHeldBy, KnowsObjects}
use Rattle.solo_lock.specs.Lacking.{IsMarked, pages_of}
use Rattle.solo_lock.specs.Plans.{IsChunkLine, Rises, unfound}

abbrev lines_in : List HeldLock → List ℕ
lines_in locks = map (λ (l : HeldLock). l.line) locks

head_same : (l k : HeldLock) (locks plan : List HeldLock) → lines_in (l ∷ locks) ≡ lines_in (k ∷ plan) → l.line ≡ k.line
head_same l k locks plan same = ap (λ ls. get_or ls 0 0) same

tail_same : (l k : HeldLock) (locks plan : List HeldLock) → lines_in (l ∷ locks) ≡ lines_in (k ∷ plan) → lines_in locks ≡ lines_in plan
tail_same l k locks plan same = ap (drop 1) same

-- what holds of each line of a plan does of locks of the same lines
pub all_same : (P : ℕ → Type 0) (locks plan : List HeldLock) → lines_in locks ≡ lines_in plan → AllByRecursion (λ (l : HeldLock). P l.line) plan → AllByRecursion (λ (l : HeldLock). P l.line) locks
all_same P [] plan same all = tt
all_same P (l ∷ locks) [] same all = absurd (let n = ap length same in omega (arith, n))
all_same P (l ∷ locks) (k ∷ plan) same all = (subst P (sym (head_same l k locks plan same)) all.0, all_same P locks plan (tail_same l k locks plan same) all.1)

pub rises_same : (locks plan : List HeldLock) → lines_in locks ≡ lines_in plan → Rises plan → Rises locks
unfolding Rises
rises_same [] plan same rises = tt
rises_same (l ∷ locks) [] same rises = absurd (let n = ap length same in omega (arith, n))
rises_same (l ∷ locks) (k ∷ plan) same rises = (
  subst (λ n. AllByRecursion (λ (h : HeldLock). n < h.line) locks) (sym (head_same l k locks plan same)) (all_same (λ n. k.line < n) locks plan (tail_same l k locks plan same) rises.0),
  rises_same locks plan (tail_same l k locks plan same) rises.1,
)

-- the lines and the model's locks of what was taken
pub plan_lines : (plan : List HeldLock) → map (λ (l : Lock). l.line) (map lock_of (map unfound plan)) ≡ lines_in plan
plan_lines [] = refl
plan_lines (l ∷ plan) = (λ i. l.line ∷ plan_lines plan i)

-- the locks that were taken are of the plan's lines
pub taken_lines : {M : Type 0} (at : M → View → Type 0) (lane : Lane M) (v : View) (plan : List HeldLock) → (t : HasTaken at lane v (map lock_of (map unfound plan))) → HasLines t.view plan
taken_lines at lane v plan t = ap (map (λ (l : Lock). l.line)) t.locks_are ∙ plan_lines plan

pub plan_models : (plan : List HeldLock) → map model_lock (map lock_of (map unfound plan)) ≡ map model_lock (map lock_of plan)
plan_models [] = refl
plan_models (l ∷ plan) = (λ i. model_lock (lock_of l) ∷ plan_models plan i)

view_lines : (locks : List HeldLock) → map (λ (l : Lock). l.line) (map lock_of locks) ≡ lines_in locks
view_lines [] = refl
view_lines (l ∷ locks) = (λ i. l.line ∷ view_lines locks i)

-- what is in a list has its image in the map
in_map : {X Y : Type 0} (f : X → Y) (xs : List X) (x : X) → Contains xs x → Contains (map f xs) (f x)
in_map f xs x there =
    let n = length-map xs f in
    let low = there.1 in
    (there.0, omega (arith, low, n), get_or-map f xs there.0 x ∙ ap f there.2)

module _ {M : Type 0} (at : M → View → Type 0) (old lane : Lane M) (plan : List HeldLock) (rises : Rises plan) (chunks : AllByRecursion (IsChunkLine old.shape.lanes old.shape.zones) plan) (fields : lane ≡ record old { memory = lane.memory; locks = lane.locks }) where
  pub held_by : (v : View) → IsBegun at lane v → HasLines v plan → IsHeldBy v lane.locks.items
  held_by v is lines =
      let same : lines_in lane.locks.items ≡ lines_in plan = sym (view_lines lane.locks.items) ∙ ap (map (λ (l : Lock). l.line)) is.seen.locks ∙ lines in
      let shape : lane.shape ≡ old.shape = ap (λ (l : Lane M). l.shape) fields in
      let lanes : v.lanes ≡ old.shape.lanes = is.seen.shape.lanes ∙ ap (λ (s : Shape). s.lanes) shape in
      let zones : v.zones ≡ old.shape.zones = is.seen.shape.zones ∙ ap (λ (s : Shape). s.zones) shape in
      let few = lane.shape.lanes_to in
      let most = lane.shape.zones_to in
      let seen = is.seen.shape in
      let a = seen.lanes in let b = seen.zones in let n = seen.size in
      record {
        held = is.seen.locks;
        rises = rises_same lane.locks.items plan same rises;
        chunks = subst (λ n. AllByRecursion (IsChunkLine n v.zones) lane.locks.items) (sym lanes)
            (subst (λ z. AllByRecursion (IsChunkLine old.shape.lanes z) lane.locks.items) (sym zones)
            (all_same (λ n. (is_chunk old.shape.lanes (n / 64) ≡ true) × (n < 64 + 128 * old.shape.lanes + 4160 * old.shape.zones)) lane.locks.items plan same chunks));
        size = omega (arith, a, b, n);
        lanes_few = omega (arith, a, few);
        zones_few = omega (arith, b, most);
      }

  module _ (v : View) (lines : HasLines v plan) (looked : HasLooked at lane v (pages_of plan)) where
    pub view_held : IsHeldBy looked.view lane.locks.items
    view_held = held_by looked.view looked.begun (looked.lines ∙ lines)

    -- each lock is in a page that was looked at
    lock_marked : (l : Lock) → Contains looked.view.locks l → IsMarked looked.view l
    lock_marked l there =
        let line : Contains (lines_in plan) l.line = subst (λ ls. Contains ls l.line) (looked.lines ∙ lines) (in_map (λ (k : Lock). k.line) looked.view.locks l there) in
        let page : Contains (pages_of plan) (l.line / 64) = subst (λ ps. Contains ps (l.line / 64)) (map-map (λ n. n / 64) (λ (k : HeldLock). k.line) plan) (in_map (λ n. n / 64) (lines_in plan) l.line line) in
        looked.marked (l.line / 64) page l there refl

    pub has_found : (memory : M) (all : Bool) → KnowsObjects (at memory) looked.view all → HasFound at (record lane { memory = memory }) v all
    has_found memory all k = record {
      view = k.view;
      led = led_then v looked.view k.view looked.led k.looks.led;
      begun = begun_looks at lane (record lane { memory = memory }) looked.view k.view looked.begun k.looks k.there (looked.begun.seen.locks ∙ sym k.locks) (ap (map (λ (l : Lock). l.line)) k.locks) refl;
      locks = ap (map model_lock) k.locks ∙ looked.locks;
      entries = ap (λ (u : View). u.entries) k.looks.same ∙ looked.entries;
      objects = k.objects;
      none = λ no. unfit_lacks k.view
          (λ l there. subst (λ (b : Option ℕ). (l.block ≡ b) ⊎ IfSome b (λ lines. lines ≡ 0)) (sym (k.blocks l.line)) (lock_marked l (subst (λ (ls : List Lock). Contains ls l) k.locks there)))
          (k.unfit no);
    }

-- A LEVEL ENDS: the lane's data at another level, and once all of its locks are given back.
use Rattle.std.proofs.Common.{◌≡◌, ◌≢◌, ℕ, ◌+◌, ◌*◌, ◌%◌, ◌<◌, ◌≤◌, Bool, true, false, ◌==◌, ◌&&◌, ◌||◌, not, List, [], ◌∷◌, refl, sym, ap, ◌∙◌, subst}
use Rattle.std.specs.List.{list_any}
use Rattle.std.proofs.lemmas.Bool.{and_parts, both_ways, or_from}
use Rattle.pm_layout.specs.declared.shape.Shape.{Shape}
use Rattle.pm_layout.specs.Sizes.{blocks_of}
use Rattle.pm_model.specs.Transaction.{Transaction}
use Rattle.pm_objects.specs.declared.history.TxErr.{TxErr}
use Rattle.pm_objects.specs.declared.history.TxErr.TheVariants as error
use Rattle.pm_view.specs.Claims.{Claim, Gave, class, first, found, header_in, holds, locked, making, mine, pictured, reads, span}
use Rattle.pm_view.specs.Places.{Block, Small, Big, Root, header, in_span}
use Rattle.pm_view.specs.View.{View}
use Rattle.pm_world.specs.InWorld.{IsSound, SizesFit, block_bytes}
use Rattle.pm_world.specs.LaneFields.{Standing}
use Rattle.pm_world.specs.declared.lane.HeldLock.{HeldLock}
use Rattle.pm_crash.specs.Sim.{lists_of}
use Rattle.pm_lock.specs.Holding.{MayGiveAll, gave}
use Rattle.pm_lock.specs.Wants.{is_listed}
use Rattle.pm_lock.proofs.HeldLocks.{held_may_be_given}
use Rattle.pm_lock.proofs.Holds.{gives_given}
use Rattle.pm_call.specs.At.{AreLists, IsAt, MaySet}
use Rattle.pm_call.specs.Did.{IsOver, next}
use Rattle.pm_call.specs.Plans.{gives_up}
use Rattle.pm_call.specs.Stages.{GivenUpArePast, IsBetween, Leaves, at_level, closed, unlisted}
use Rattle.pm_call.specs.Waiting.{uncalled}
use Rattle.pm_call.proofs.Noting.{all_map}
use Rattle.pm_call.proofs.OverCalls.{over_as}
use Rattle.pm_call.proofs.Staying.{has_pending}

-- ---- locks that are given back teach nothing

pictured_gave : (sh : Shape) (locks : List HeldLock) (t : List Claim) (w : ℕ) → pictured sh (gave locks t) w ≡ pictured sh t w
pictured_gave sh [] t w = refl
pictured_gave sh (l ∷ locks) t w = pictured_gave sh locks (Gave l.line ∷ t) w

class_gave : (locks : List HeldLock) (t : List Claim) → class (gave locks t) ≡ class t
class_gave [] t = refl
class_gave (l ∷ locks) t = class_gave locks (Gave l.line ∷ t)

span_gave : (sh : Shape) (locks : List HeldLock) (t : List Claim) → span sh (gave locks t) ≡ span sh t
span_gave sh [] t = refl
span_gave sh (l ∷ locks) t = span_gave sh locks (Gave l.line ∷ t)

first_gave : (sh : Shape) (locks : List HeldLock) (t : List Claim) → first sh (gave locks t) ≡ first sh t
first_gave sh [] t = refl
first_gave sh (l ∷ locks) t = first_gave sh locks (Gave l.line ∷ t)

-- what is found still was found
found_gave : (sh : Shape) (locks : List HeldLock) (t : List Claim) (B : Block) → found sh (gave locks t) B ≡ true → found sh t B ≡ true
found_gave sh [] t B e = e
found_gave sh (l ∷ locks) t B e = (and_parts (not (l.line == header_in sh t B)) (found sh t B) (found_gave sh locks (Gave l.line ∷ t) B e)).1

sound_gave : (v : View) (locks : List HeldLock) → IsSound v → IsSound (record v { claims = gave locks v.claims })
sound_gave v locks s = record {
  small = λ c i e. subst (λ cl. (cl c ≢ 0) × (i < blocks_of (cl c))) (sym (class_gave locks v.claims)) (s.small c i (found_gave v.fixed.shape locks v.claims (Small c i) e));
  some = λ f e. subst (λ sp. 1 ≤ sp f) (sym (span_gave v.fixed.shape locks v.claims)) (s.some f (found_gave v.fixed.shape locks v.claims (Big f) e));
  zone = λ f e. subst (λ sp. f % 64 + sp f ≤ 64) (sym (span_gave v.fixed.shape locks v.claims)) (s.zone f (found_gave v.fixed.shape locks v.claims (Big f) e));
  huge = λ f c e i. let t = s.huge f c (found_gave v.fixed.shape locks v.claims (Big f) e) (ap (λ sp. in_span f (sp f) c) (sym (span_gave v.fixed.shape locks v.claims)) ∙ i) in
      (ap (λ fi. fi c) (first_gave v.fixed.shape locks v.claims) ∙ t.0, ap (λ cl. cl c) (class_gave locks v.claims) ∙ t.1);
}

making_gave : (sh : Shape) (locks : List HeldLock) (t : List Claim) (c : ℕ) → making sh (gave locks t) c ≡ making sh t c
making_gave sh [] t c = refl
making_gave sh (l ∷ locks) t c = making_gave sh locks (Gave l.line ∷ t) c

mine_gave : (sh : Shape) (locks : List HeldLock) (t : List Claim) (B : Block) → mine sh (gave locks t) B ≡ mine sh t B
mine_gave sh [] t B = refl
mine_gave sh (l ∷ locks) t B = mine_gave sh locks (Gave l.line ∷ t) B

sizes_gave : (v : View) (locks : List HeldLock) → SizesFit v → SizesFit (record v { claims = gave locks v.claims })
sizes_gave v locks f B x e o seen = subst (λ m. 64 + x ≤ m) (sym (bytes B))
    (f B x (found_gave v.fixed.shape locks v.claims B e) o
    (sym (pictured_gave v.fixed.shape locks v.claims (8 * header_in v.fixed.shape v.claims B + 1)) ∙ (ap (λ k. pictured v.fixed.shape (gave locks v.claims) (8 * k + 1)) (sym line) ∙ seen)))
  where
    line : header_in v.fixed.shape (gave locks v.claims) B ≡ header_in v.fixed.shape v.claims B
    line = λ i. header v.fixed.shape (record { first = λ c. c; class = class_gave locks v.claims i }) B

    bytes : (B : Block) → block_bytes (record v { claims = gave locks v.claims }) B ≡ block_bytes v B
    bytes (Small c i) = ap (λ cl. 64 * cl c) (class_gave locks v.claims)
    bytes (Big h) = ap (λ sp. 4096 * sp h) (span_gave v.fixed.shape locks v.claims)
    bytes Root = refl

-- what is held still was held, and is in no lock of the list
held_gave : (locks : List HeldLock) (t : List Claim) (line : ℕ) → holds (gave locks t) line ≡ true → (holds t line ≡ true) × (list_any (λ (l : HeldLock). l.line == line) locks ≡ false)
held_gave [] t line e = (e, refl)
held_gave (l ∷ locks) t line e = by (l.line == line) refl (held_gave locks (Gave l.line ∷ t) line e)
  where
    by : (b : Bool) → (l.line == line) ≡ b → (holds (Gave l.line ∷ t) line ≡ true) × (list_any (λ (k : HeldLock). k.line == line) locks ≡ false)
        → (holds t line ≡ true) × (list_any (λ (k : HeldLock). k.line == line) (l ∷ locks) ≡ false)
    by true is h = absurd (both_ways (holds (Gave l.line ∷ t) line) (ap (λ b. (not b && locked t line) || (not b && reads t line)) is) h.0)
    by false is h = (sym (ap (λ b. (not b && locked t line) || (not b && reads t line)) is) ∙ h.0, or_from (l.line == line) (list_any (λ (k : HeldLock). k.line == line) locks) is h.1)

-- ---- THE OUTERMOST LEVEL ENDS

pub may_give : (s : Standing) → IsOver s → MayGiveAll s.view s.locks
may_give s over = held_may_be_given s.view s.locks (ap (λ (l : Rattle.pm_view.specs.Log.Log). l.phase) over.log) over.holds.each

-- the lane's data then, but for the order in which the view came to be
abbrev pub given : Standing → Standing
given s = record s { view = record s.view { claims = gave s.locks s.view.claims }; locks = []; level = 0 }

pub closed_is : (s : Standing) → closed s ≡ given s
closed_is s = ap (λ (w : View). record s { view = w; locks = []; level = 0 }) (gives_given s.view s.locks)

pub closes : (s : Standing) → IsOver s → s.entries ≡ [] → IsBetween (closed s)
closes s over none = subst IsBetween (sym (closed_is s)) (record {
  over = record {
    log = over.log;
    drained = over.drained;
    sound = sound_gave s.view s.locks over.sound;
    known = pictured_gave s.view.fixed.shape s.locks s.view.claims _ ∙ over.known;
    sealed = pictured_gave s.view.fixed.shape s.locks s.view.claims _ ∙ over.sealed;
    lane = over.lane;
    lanes = over.lanes;
    zones = over.zones;
    unmaking = λ c. making_gave s.view.fixed.shape s.locks s.view.claims c ∙ over.unmaking c;
    sizes = sizes_gave s.view s.locks over.sizes;
    holds = record { each = record { once = tt; inside = tt; held = tt }; only = none_held };
    own = λ c i e. subst (λ cl. cl c ≢ 0) (sym (class_gave s.locks s.view.claims)) (over.own c i (sym (mine_gave s.view.fixed.shape s.locks s.view.claims (Small c i)) ∙ e));
    pending = has_pending (uncalled s.view) (uncalled (given s).view) refl refl over.pending;
    facts = over.facts;
  };
  unlocked = refl;
  unlisted = none;
})
  where
    none_held : (line : ℕ) → holds (gave s.locks s.view.claims) line ≡ true → is_listed [] [] line ≡ true
    none_held line e = let h = held_gave s.locks s.view.claims line e in
        absurd (both_ways (is_listed s.locks [] line) (or_from (list_any (λ (l : HeldLock). l.line == line) s.locks) false h.1 refl) (over.holds.only line h.0))

-- ---- AN INNER LEVEL ENDS: the lane's data at another level

pub over_at : (n : ℕ) (s : Standing) → IsOver s → IsOver (at_level n s)
over_at n s over = over_as s s.entries n over

lists_at : (n level : ℕ) (s : Standing) (tx : Transaction) → AreLists s level tx → AreLists (at_level n s) level tx
lists_at n level s tx lists = record {
  level_is = lists.level_is;
  works = lists.works;
  locks = lists.locks;
  count = lists.count;
  recorded = lists.recorded;
  records = lists.records;
  blocks = lists.blocks;
  pending = lists.pending;
  sets = lists.sets;
  may_set = all_map (MaySet s) (MaySet (at_level n s)) tx.sets (λ a m. record { locked = m.locked; aligned = m.aligned; size = m.size; sized = m.sized; inside = m.inside; small = m.small }) lists.may_set;
  error_is = lists.error_is;
}

pub work_at : (n level : ℕ) (s : Standing) → IsAt s level → IsAt (at_level n s) level
work_at n level s at = record {
  working = at.working;
  unbumped = at.unbumped;
  begun = at.begun;
  some = at.some;
  most = at.most;
  sound = at.sound;
  sizes = at.sizes;
  sealed = at.sealed;
  number = at.number;
  held = at.held;
  lines = at.lines;
  few = at.few;
  holds = at.holds;
  own = at.own;
  room = at.room;
  recorded = at.recorded;
  lists = lists_at n level s (lists_of s.view) at.lists;
  pending = at.pending;
  sim = at.sim;
  facts = at.facts;
}

-- the outermost level leaves the call over; so does an aborted one
pub leaves_outermost : (e : TxErr) (s : Standing) → Leaves e 1 s → IsOver s × (s.entries ≡ [])
leaves_outermost error.None s l = l
leaves_outermost e s l = l

-- ---- A CALL THAT WAS GIVEN UP is past its work
pub given_up_are_past : {M : Type 0} (at : M → View → Type 0) → GivenUpArePast at
given_up_are_past at lane s op reply e is aborted up = record {
  sees = record { memory = up.sees.memory; fields = up.sees.fields };
  past = record { past = refl; some = is.some; most = is.most; leaves = by e aborted s.level };
}
  where
    by : (x : TxErr) → x ≢ error.None → (n : ℕ) → Leaves x n (unlisted (next s (gives_up op reply up.number)))
    by error.None not_none n = absurd (not_none refl)
    by x not_none n = (over_as (next s (gives_up op reply up.number)) [] s.level up.over, refl)

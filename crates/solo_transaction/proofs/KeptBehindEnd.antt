-- A lane that gives its locks back, and then reclaims what it has but for what it keeps, knows the words still of an object that lies in what it has reserved at the end.
use Rattle.std.proofs.Common.{◌≡◌, ℕ, zero, suc, ◌+◌, ◌*◌, ◌||◌, Bool, true, false, cond, eqb, not, All, Contains, List, [], ◌∷◌, ◌++◌, length, slice_index, refl, sym, ap, ◌∙◌, subst}
use Rattle.std.specs.List.{filter, list_any}
use Rattle.std.proofs.lemmas.Bool.{or_right}
use Rattle.std.proofs.lemmas.List.Elements.{All-head, All-tail}
use Rattle.pm_image.proofs.Members.{later_member}
use Rattle.pm_image.specs.Blocks.{descriptor_word}
use Rattle.solo_view.proofs.Sequences.{after_all-append}
use Rattle.solo_view.specs.declared.occ.Occ.{Occ}
use Rattle.solo_view.specs.declared.occ.Occ.TheVariants.{Zone}
use Rattle.solo_view.specs.Area.{is_in_area}
use Rattle.solo_view.specs.Founds.{FoundAlone, IsAlone}
use Rattle.solo_view.specs.Held.{is_held, is_reserved, is_under}
use Rattle.solo_view.specs.Steps.{Step}
use Rattle.solo_view.specs.Steps.Step.{Load, Store, Or, And, Flush, Drain, TakeWrite, TakeRead, Raise, Give, ZoneTry, ZoneGive, Occupied, Occupy, Vacate, Draw, NumberSeen, StopSeen, SetStop, Tell}
use Rattle.solo_view.specs.View.{Lock, View}
use Rattle.solo_view.specs.Views.{after, after_all, reserves}
use Rattle.solo_world.specs.Lawful.{Allowed}
use Rattle.solo_world.specs.Sequences.{counted, in_turn, nothing, one}
use Rattle.solo_world.specs.declared.lane.HeldLock.{HeldLock}
use Rattle.solo_world.proofs.Vacated.{vacated_before}
use Rattle.solo_crash.specs.CallBlocks.{NewObject}
use Rattle.solo_crash.specs.HeapChanges.{run_at}
use Rattle.solo_crash.specs.Leading.{Leads}
use Rattle.solo_crash.proofs.Includes.{kept_member}
use Rattle.solo_lock.specs.Locking.{gives, line_at}
use Rattle.solo_reclaim.proofs.GivingBack.{giving_keeps, left_is}
use Rattle.solo_reclaim.proofs.Steps.{load_same, look_same}
use Rattle.solo_reclaim.specs.KnownTaken.{KnowsTaken}
use Rattle.solo_reclaim.specs.Reclaims.{IsReclaiming, Reclaims}
use Rattle.solo_transaction.proofs.NewWords.{IsInBlock}
use Rattle.solo_transaction.proofs.RestingViews.{lies_by, lies_held}
use Rattle.solo_transaction.specs.AtWork.{LiesInReserved}

-- ---- locks are given back

-- a word in what the lane reserved is held without any lock
give_knows : (v : View) (line i : ℕ) → is_reserved v i ≡ true → Contains v.known i → Contains (after v (Give line)).known i
give_knows v line i own there =
    let free : View = record v { locks = filter (λ (l : Lock). not (eqb l.line line)) v.locks } in
    kept_member (is_held free) v.known i there (or_right (is_in_area v.lane i || list_any (is_under i) free.locks) (is_reserved free i) own)

-- so it is known behind all of them, and reserved
record KnowsOwn (v : View) (i : ℕ) : Type 0 where
  own : is_reserved v i ≡ true
  knows : Contains v.known i

given_one : (v : View) (line i : ℕ) → KnowsOwn v i → KnowsOwn (after v (Give line)) i
given_one v line i its = record { own = its.own; knows = give_knows v line i its.own its.knows }

module _ (locks : List HeldLock) (i : ℕ) where
  given_first : (n : ℕ) (v : View) → KnowsOwn v i → KnowsOwn (after_all v (counted (λ k. one (Give (line_at locks k))) n v)) i
  unfolding nothing counted in_turn one after_all
  given_first zero v its = its
  given_first (suc n) v its =
      let front : List Step = counted (λ k. one (Give (line_at locks k))) n v in
      let give : Step = Give (line_at locks n) in
      subst (λ (w : View). KnowsOwn w i) (sym (after_all-append v front (give ∷ []))) (given_one (after_all v front) (line_at locks n) i (given_first n v its))

  pub given_know : (v : View) → is_reserved v i ≡ true → Contains v.known i → Contains (after_all v (gives locks v)).known i
  unfolding gives
  given_know v own there = (given_first (length locks) v (record { own = own; knows = there })).knows

-- ---- what the lane has is reclaimed

-- words and shape are the same, and the lane has reserved no more; of an object that lies in what it has reserved it knows each word that it knew
record IsLeftOf (v w : View) : Type 0 where
  lanes : w.lanes ≡ v.lanes
  zones : w.zones ≡ v.zones
  words : w.words ≡ v.words
  less : (at : Occ) (bit : ℕ) → reserves w at bit ≡ true → reserves v at bit ≡ true
  knows : (n : NewObject) (i : ℕ) → LiesInReserved w n → IsInBlock n i → Contains v.known i → Contains w.known i

-- what lies in what it has reserved lay there before
lay_before : (v w : View) → IsLeftOf v w → (n : NewObject) → LiesInReserved w n → LiesInReserved v n
lay_before v w left n = lies_by w v n (sym left.lanes) (sym left.zones)
    (λ run inside. (ap (λ (ws : List ℕ). slice_index ws (descriptor_word w.lanes run.chunk)) (sym left.words), left.less (run_at w.lanes run.chunk) run.index run.reserved))
    (λ its j near. (ap (λ (ws : List ℕ). slice_index ws (descriptor_word w.lanes (64 * its.zone + (its.first + j)))) (sym left.words), left.less (Zone its.zone) (its.first + j) (its.unused j near).reserved))

left_none : (v : View) → IsLeftOf v v
left_none v = record { lanes = refl; zones = refl; words = refl; less = λ at bit had. had; knows = λ n i lies word there. there }

left_then : (u v w : View) → IsLeftOf u v → IsLeftOf v w → IsLeftOf u w
left_then u v w first second = record {
  lanes = second.lanes ∙ first.lanes;
  zones = second.zones ∙ first.zones;
  words = second.words ∙ first.words;
  less = λ at bit had. first.less at bit (second.less at bit had);
  knows = λ n i lies word there. second.knows n i lies word (first.knows n i (lay_before v w second n lies) word there);
}

-- a view that saw or knows more
left_seen : (v : View) (known : List ℕ) (seen : List Step) → ((i : ℕ) → Contains v.known i → Contains known i) → IsLeftOf v (record v { known = known; seen = seen })
left_seen v known seen more = record { lanes = refl; zones = refl; words = refl; less = λ at bit had. had; knows = λ n i lies word there. more i there }

knows_more : (holds : Bool) (w : ℕ) (known : List ℕ) (i : ℕ) → Contains known i → Contains (cond holds (w ∷ known) known) i
knows_more true w known i there = later_member w known i there
knows_more false w known i there = there

-- of what the lane saw, and of which words it knows, what is taken says nothing
taken_seen : (v : View) (known : List ℕ) (seen : List Step) → KnowsTaken v → KnowsTaken (record v { known = known; seen = seen })
taken_seen v known seen taken = record { pages = taken.pages; zone_count = taken.zone_count; bits = taken.bits; apart = taken.apart; once = taken.once }

-- the lane rests alone with no line locked, and knows what is taken
record IsAloneTaken (v : View) : Type 0 where
  alone : IsAlone v
  free : v.locks ≡ []
  taken : KnowsTaken v

-- one step leaves it so
record IsStepOf (v w : View) : Type 0 where
  rests : IsAloneTaken w
  left : IsLeftOf v w

seen_step : (v w : View) (known : List ℕ) (seen : List Step) → IsAloneTaken v → ((i : ℕ) → Contains v.known i → Contains known i) → w ≡ record v { known = known; seen = seen } → IsStepOf v w
seen_step v w known seen rests more same =
    subst (IsStepOf v) (sym same) (record { rests = record { alone = rests.alone; free = rests.free; taken = taken_seen v known seen rests.taken }; left = left_seen v known seen more })

step_left : (v : View) (s : Step) → IsAloneTaken v → Allowed v s → FoundAlone v s → IsReclaiming s → IsStepOf v (after v s)
step_left v (Load w x) rests may found is =
    seen_step v (after v (Load w x)) (cond (is_held v w) (w ∷ v.known) v.known) (v.seen ++ Load w x ∷ []) rests (knows_more (is_held v w) w v.known) (load_same v w x (found rests.alone) rests.free)
step_left v (Occupied at x) rests may found is = seen_step v (after v (Occupied at x)) v.known (v.seen ++ Occupied at x ∷ []) rests (λ i there. there) (look_same v at x (found rests.alone))
step_left v (Vacate at bits) rests may found is =
    let w : View = after v (Vacate at bits) in
    record {
      rests = record { alone = rests.alone; free = rests.free; taken = giving_keeps v (Vacate at bits) rests.taken may tt };
      left = record {
        lanes = refl;
        zones = refl;
        words = refl;
        less = λ other bit had. vacated_before at bits may.small other bit v.reserved (sym (left_is v at bits rests.taken may other bit) ∙ had);
        knows = λ n i lies word there. kept_member (is_held w) v.known i there (lies_held w n lies i word);
      };
    }
step_left v (Store w x) rests may found is = absurd is
step_left v (Or w bits x) rests may found is = absurd is
step_left v (And w bits x) rests may found is = absurd is
step_left v (Flush line) rests may found is = absurd is
step_left v Drain rests may found is = absurd is
step_left v (TakeWrite line won) rests may found is = absurd is
step_left v (TakeRead line won) rests may found is = absurd is
step_left v (Raise line won) rests may found is = absurd is
step_left v (Give line) rests may found is = absurd is
step_left v (ZoneTry zone won) rests may found is = absurd is
step_left v (ZoneGive zone) rests may found is = absurd is
step_left v (Occupy at bits won) rests may found is = absurd is
step_left v (Draw n) rests may found is = absurd is
step_left v (NumberSeen n) rests may found is = absurd is
step_left v (StopSeen set) rests may found is = absurd is
step_left v SetStop rests may found is = absurd is
step_left v (Tell operation reply) rests may found is = absurd is

all_left : (v w : View) (steps : List Step) → IsAloneTaken v → Leads v steps w → All IsReclaiming steps → IsLeftOf v w
unfolding Leads
all_left v w [] rests leads only = subst (IsLeftOf v) (sym leads) (left_none v)
all_left v w (s ∷ steps) rests leads only =
    let t = step_left v s rests leads.0 leads.1 (All-head IsReclaiming s steps only) in
    left_then v (after v s) w t.left (all_left (after v s) w steps t.rests leads.3 (All-tail IsReclaiming s steps only))

pub reclaimed_know : (v w : View) → IsAlone v → v.locks ≡ [] → KnowsTaken v → Reclaims v w → (n : NewObject) (i : ℕ) → LiesInReserved w n → IsInBlock n i → Contains v.known i → Contains w.known i
reclaimed_know v w alone free taken reclaims = (all_left v w reclaims.steps (record { alone = alone; free = free; taken = taken }) reclaims.leads reclaims.only).knows

-- WHAT A LANE LISTS AS PENDING, once a word was asked for, and once all was dropped.
use Rattle.std.proofs.Common.{◌≡◌, ℕ, suc, ◌%◌, ◌^◌, ◌<◌, ◌≤◌, ◌==◌, ◌||◌, List, [], ◌∷◌, ◌++◌, length, map, refl, sym, ap, ◌∙◌, subst, arith, None}
use Rattle.std.specs.List.{AllByRecursion, list_any}
use Rattle.pm_model.specs.Pending.{Pending, SetWord, max_actions, pending_count, none_pending, with_set}
use Rattle.pm_objects.specs.declared.calls.Operation.TheVariants.{SetValue, Cancel}
use Rattle.pm_objects.specs.declared.ids.Oid.{Oid}
use Rattle.pm_view.specs.Steps.Step.{Tell}
use Rattle.pm_view.specs.View.{Told, View}
use Rattle.pm_view.specs.Views.{after}
use Rattle.pm_world.specs.LaneFields.{listed, listed_as}
use Rattle.pm_world.specs.declared.lane.PendingAction.{PendingAction}
use Rattle.pm_world.specs.declared.lane.PendingAction.TheVariants.{Set}
use Rattle.pm_crash.specs.Calls.{pending_of}
use Rattle.pm_call.specs.Waiting.{HasPending, IsWord, listed_set, pending_now}
use Rattle.pm_call.proofs.Staying.{pending_more}

-- ---- lists with one more

pub listed_more : (told : List Told) (t : Told) → listed (told ++ t ∷ []) ≡ listed told ++ listed_as t.operation t.reply
listed_more [] t = more_none (listed_as t.operation t.reply) where
  more_none : (xs : List PendingAction) → xs ++ [] ≡ xs
  more_none [] = refl
  more_none (x ∷ xs) = ap (λ ys. x ∷ ys) (more_none xs)
listed_more (x ∷ told) t = ap (λ ys. listed_as x.operation x.reply ++ ys) (listed_more told t) ∙ joined (listed_as x.operation x.reply) where
  joined : (xs : List PendingAction) → xs ++ (listed told ++ listed_as t.operation t.reply) ≡ (xs ++ listed told) ++ listed_as t.operation t.reply
  joined [] = refl
  joined (y ∷ xs) = ap (λ ys. y ∷ ys) (joined xs)

one_more : {A : Type 0} (xs : List A) (x : A) → length (xs ++ x ∷ []) ≡ suc (length xs)
one_more [] x = refl
one_more (y ∷ xs) x = ap suc (one_more xs x)

map_more : {A B : Type 0} (f : A → B) (xs : List A) (x : A) → map f (xs ++ x ∷ []) ≡ map f xs ++ f x ∷ []
map_more f [] x = refl
map_more f (y ∷ xs) x = ap (λ ys. f y ∷ ys) (map_more f xs x)

length_map : {A B : Type 0} (f : A → B) (xs : List A) → length (map f xs) ≡ length xs
length_map f [] = refl
length_map f (x ∷ xs) = ap suc (length_map f xs)

all_more : {A : Type 0} (P : A → Type 0) (xs : List A) (x : A) → AllByRecursion P xs → P x → AllByRecursion P (xs ++ x ∷ [])
all_more P [] x all is = (is, tt)
all_more P (y ∷ xs) x all is = (all.0, all_more P xs x all.1 is)

-- the lane lists as many actions as the model has pending
pub count_is : (v : View) → HasPending v → length (listed v.actions) ≡ pending_count (pending_now v)
count_is v h =
    let sets = length_map listed_set (pending_now v).sets in
    let frees = ap length h.no_frees in
    let reserved = ap length h.none_reserved in
    ap length h.lists ∙ (let e : length (map listed_set (pending_now v).sets) ≡ pending_count (pending_now v) = omega (arith, sets, frees, reserved) in e)

-- ---- A WORD IS ASKED FOR
module _ (v : View) (id : Oid) (off value : ℕ) where
  abbrev t : Told
  t = record { operation = SetValue id off value; reply = None }

  abbrev u : View
  u = after v (Tell (SetValue id off value) None)

  abbrev word : SetWord
  word = record { id = id; off = off; value = value }

  pub asked_now : pending_now u ≡ with_set word (pending_now v)
  asked_now = pending_more v.call t (pending_of v.entries)

  pub asked_pending : off % 8 ≡ 0 → length (listed v.actions) < max_actions → value < 2 ^ 64 → HasPending v → HasPending u
  asked_pending aligned room small h = record {
    lists = listed_more v.actions t ∙ (ap (λ xs. xs ++ Set id off value ∷ []) h.lists ∙ (sym (map_more listed_set (pending_now v).sets word) ∙ ap (λ (p : Pending). map listed_set p.sets) (sym asked_now)));
    no_frees = ap (λ (p : Pending). p.frees) asked_now ∙ h.no_frees;
    none_reserved = ap (λ (p : Pending). p.reserved) asked_now ∙ h.none_reserved;
    on_time = ap (λ (p : Pending). p.late) asked_now ∙ (ap (λ fs. list_any (λ (other : Oid). other.off == id.off) fs || (pending_now v).late) h.no_frees ∙ h.on_time);
    few = subst (λ (p : Pending). length p.sets ≤ max_actions) (sym asked_now) (let more = one_more (pending_now v).sets word in let sets = ap length h.lists ∙ length_map listed_set (pending_now v).sets in omega (arith, more, sets, room));
    words = subst (λ (p : Pending). AllByRecursion IsWord p.sets) (sym asked_now) (all_more IsWord (pending_now v).sets word h.words (aligned, small));
  }

-- ---- ALL IS DROPPED
module _ (v : View) where
  abbrev c : Told
  c = record { operation = Cancel; reply = None }

  dropped_now : pending_now (after v (Tell Cancel None)) ≡ none_pending
  dropped_now = pending_more v.call c (pending_of v.entries)

  pub dropped_pending : HasPending (after v (Tell Cancel None))
  dropped_pending = record {
    lists = ap (λ (p : Pending). map listed_set p.sets) (sym dropped_now);
    no_frees = ap (λ (p : Pending). p.frees) dropped_now;
    none_reserved = ap (λ (p : Pending). p.reserved) dropped_now;
    on_time = ap (λ (p : Pending). p.late) dropped_now;
    few = subst (λ (p : Pending). length p.sets ≤ max_actions) (sym dropped_now) (omega arith);
    words = subst (λ (p : Pending). AllByRecursion IsWord p.sets) (sym dropped_now) tt;
  }

-- What a lane answers that runs alone is an answer.
use Rattle.std.proofs.Common.{◌≡◌, ℕ, List, get_or, Option, Some, None, MatchOption, Bool, true, false, not, ◌&&◌, refl, sym, ◌∙◌, ap, subst}
use Rattle.std.specs.Prelude.{IsSome, IsTrue, All, is_none}
use Rattle.std.specs.List.{list_any}
use Rattle.std.proofs.lemmas.Bool.{false≢true, false_from_ne_true, and_from, and_parts}
use Rattle.std.proofs.lemmas.List.Folds.{list_any_at}
use Rattle.pm_objects.specs.Pool.{object_at}
use Rattle.pm_objects.specs.declared.calls.Operation.{Operation}
use Rattle.pm_objects.specs.declared.calls.Operation.TheVariants.{Alloc, Reserve}
use Rattle.pm_objects.specs.declared.calls.Want.{Want}
use Rattle.pm_objects.specs.declared.history.Value.{Value}
use Rattle.pm_objects.specs.declared.history.Value.TheVariants.{Offset, Refused}
use Rattle.pm_objects.specs.declared.refusal.Refusal.{Refusal}
use Rattle.solo_model.specs.Transaction.{Transaction, holds_object}
use Rattle.solo_model.specs.Checks.{is_missing, seeks_block, wants_of}
use Rattle.solo_model.specs.Answers.{Answers, AreThere, IsDone, IsNewPlace, IsRefused, IsValue, StandsOnceDone, changes_nothing, is_known, value_of}
use Rattle.solo_model.specs.Alone.{seen_alone, refusal_alone, reply_by, answer_alone}
use Rattle.solo_model.proofs.Locking.{list_any_weaker}
use Rattle.solo_model.proofs.Alike.{value_known}
use Rattle.solo_model.proofs.Asked.{passed_missing}

some_from_none : {A : Type 0} (o : Option A) → is_none o ≡ false → IsSome o
some_from_none None is = absurd (false≢true (sym is))
some_from_none (Some x) is = refl

abbrev is_first : Transaction → Want → Bool
is_first tx want = not (holds_object tx want.id.off false)

abbrev is_lacking : Transaction → Want → Bool
is_lacking tx want = is_first tx want && is_none (object_at tx.pool.objects want.id.off)

-- where none is gone, each that is locked first is there
all_there : (tx : Transaction) (wants : List Want) → list_any (is_lacking tx) wants ≡ false
    → All (λ (want : Want). holds_object tx want.id.off false ≡ false → IsSome (object_at tx.pool.objects want.id.off)) wants
all_there tx wants none k d inside first =
    let want : Want = get_or wants k d in
    let found : Bool = is_none (object_at tx.pool.objects want.id.off) in
    some_from_none (object_at tx.pool.objects want.id.off) (false_from_ne_true found
    (λ gone. false≢true (sym none ∙ list_any_at (is_lacking tx) wants k d inside (and_from (is_first tx want) found (ap not first) gone))))

-- what is gone is locked first
none_lacking : (first gone : Bool) → (gone ≡ true → first ≡ true) → (first && gone) ≡ false → gone ≡ false
none_lacking true gone implies none = none
none_lacking false gone implies none = false_from_ne_true gone (λ g. false≢true (implies g))

there_alone : (spent full : Bool) (tx : Transaction) (op : Operation) → is_missing (seen_alone spent full tx op) tx op ≡ false → AreThere tx op
there_alone spent full tx op none =
    all_there tx (wants_of op) (none_lacking (list_any (is_first tx) (wants_of op)) (list_any (is_lacking tx) (wants_of op))
    (list_any_weaker (is_lacking tx) (is_first tx) (wants_of op) (λ want gone. (and_parts (is_first tx want) (is_none (object_at tx.pool.objects want.id.off)) gone).0)) none)

-- what a lane alone refuses so, or does with this reply
by_refusal : (spent full : Bool) (tx : Transaction) (op : Operation) (reply : Option Value) (fr : Option Refusal) → fr ≡ refusal_alone spent full tx op → StandsOnceDone tx op
    → MatchOption fr (IsValue tx op reply) (λ r. IsRefused r reply) → MatchOption fr (IsDone tx op reply) (λ r. IsRefused r reply)
by_refusal spent full tx op reply None is stands value = record { stands = stands; there = there_alone spent full tx op (passed_missing (seen_alone spent full tx op) tx op (sym is)); value = value }
by_refusal spent full tx op reply (Some r) is stands refused = refused

by_answer : (tx : Transaction) (op : Operation) (fr : Option Refusal) → seeks_block op ≡ false → MatchOption fr (Unit {0}) (λ r. changes_nothing r ≡ false)
    → MatchOption fr (IsValue tx op (reply_by fr (value_of tx op))) (λ r. IsRefused r (reply_by fr (value_of tx op)))
by_answer tx op None other traced = value_known tx op (value_of tx op) other refl
by_answer tx op (Some r) other traced = record { traced = traced; told = refl }

pub answers_alone : (spent full : Bool) (tx : Transaction) (op : Operation) → IsTrue (is_known op) → seeks_block op ≡ false → StandsOnceDone tx op
    → MatchOption (refusal_alone spent full tx op) (Unit {0}) (λ r. changes_nothing r ≡ false) → Answers tx op (answer_alone spent full tx op)
answers_alone spent full tx op known other stands traced = record {
  known = known;
  seen = seen_alone spent full tx op;
  answer = by_refusal spent full tx op (answer_alone spent full tx op) (refusal_alone spent full tx op) refl stands (by_answer tx op (refusal_alone spent full tx op) other traced);
}

-- an allocation of a lane alone
pub offset_alone : (spent full : Bool) (tx : Transaction) (size kind off : ℕ) → refusal_alone spent full tx (Alloc size kind) ≡ None → IsNewPlace tx size off
    → Answers tx (Alloc size kind) (Some (Offset off))
offset_alone spent full tx size kind off none place = record {
  known = refl;
  seen = seen_alone spent full tx (Alloc size kind);
  answer = subst (λ (fr : Option Refusal). MatchOption fr (IsDone tx (Alloc size kind) (Some (Offset off))) (λ r. IsRefused r (Some (Offset off)))) (sym none)
      (by_refusal spent full tx (Alloc size kind) (Some (Offset off)) None (sym none) tt (off, place, refl));
}

-- and what it reserves
pub place_alone : (spent full : Bool) (tx : Transaction) (size kind off : ℕ) → refusal_alone spent full tx (Reserve size kind) ≡ None → IsNewPlace tx size off
    → Answers tx (Reserve size kind) (Some (Offset off))
place_alone spent full tx size kind off none place = record {
  known = refl;
  seen = seen_alone spent full tx (Reserve size kind);
  answer = subst (λ (fr : Option Refusal). MatchOption fr (IsDone tx (Reserve size kind) (Some (Offset off))) (λ r. IsRefused r (Some (Offset off)))) (sym none)
      (by_refusal spent full tx (Reserve size kind) (Some (Offset off)) None (sym none) tt (off, place, refl));
}

pub unreserved_alone : (spent full : Bool) (tx : Transaction) (size kind : ℕ) (r : Refusal) → refusal_alone spent full tx (Reserve size kind) ≡ Some r → changes_nothing r ≡ false
    → Answers tx (Reserve size kind) (Some (Refused r))
unreserved_alone spent full tx size kind r is traced = record {
  known = refl;
  seen = seen_alone spent full tx (Reserve size kind);
  answer = subst (λ (fr : Option Refusal). MatchOption fr (IsDone tx (Reserve size kind) (Some (Refused r))) (λ q. IsRefused q (Some (Refused r)))) (sym is) (record { traced = traced; told = refl });
}

pub refused_alone : (spent full : Bool) (tx : Transaction) (size kind : ℕ) (r : Refusal) → refusal_alone spent full tx (Alloc size kind) ≡ Some r → changes_nothing r ≡ false
    → Answers tx (Alloc size kind) (Some (Refused r))
refused_alone spent full tx size kind r is traced = record {
  known = refl;
  seen = seen_alone spent full tx (Alloc size kind);
  answer = subst (λ (fr : Option Refusal). MatchOption fr (IsDone tx (Alloc size kind) (Some (Refused r))) (λ q. IsRefused q (Some (Refused r)))) (sym is) (record { traced = traced; told = refl });
}

-- AN OPERATION IS REFUSED AS Busy only where a lock that it tried was another lane's.
use Rattle.std.proofs.Common.{◌≡◌, nat_le, Bool, true, false, ◌&&◌, ◌||◌, List, [], ◌∷◌, refl, sym, ap, ◌∙◌, Option, Some}
use Rattle.std.specs.List.{list_any}
use Rattle.std.proofs.lemmas.Bool.{and_from, both_ways, cond-false, cond-true, or_left, or_right}
use Rattle.pm_objects.specs.declared.calls.Operation.{Operation}
use Rattle.pm_objects.specs.declared.calls.Operation.TheVariants as operation
use Rattle.pm_objects.specs.declared.history.Value.{Value}
use Rattle.pm_objects.specs.declared.history.Value.TheVariants.{Refused}
use Rattle.pm_objects.specs.declared.refusal.Refusal.{Refusal}
use Rattle.pm_objects.specs.declared.refusal.Refusal.TheVariants.{Busy}
use Rattle.pm_model.specs.Refusals.{Seen, Test, first_of, is_tried, refusal_of, tests}
use Rattle.pm_model.specs.Transaction.{Transaction}

abbrev pub is_busy : Refusal → Bool
is_busy Busy = true
is_busy r = false

-- a test that applies tells Busy
abbrev pub tells_busy : List Test → Bool
tells_busy [] = false
tells_busy (t ∷ rest) = (is_busy t.0 && t.1) || tells_busy rest

-- such a test there is, where the first that applies does
pub busy_applies : (list : List Test) → first_of list ≡ Some Busy → tells_busy list ≡ true
unfolding first_of
busy_applies [] e = absurd cc
busy_applies (t ∷ rest) e = at t.1 refl (busy_applies rest) where
  at : (b : Bool) → t.1 ≡ b → (first_of rest ≡ Some Busy → tells_busy rest ≡ true) → ((is_busy t.0 && t.1) || tells_busy rest) ≡ true
  at true is later = or_left (is_busy t.0 && t.1) (tells_busy rest) (and_from (is_busy t.0) t.1
      (ap is_busy (let q : Some t.0 ≡ Some Busy = sym (cond-true t.1 (Some t.0) (first_of rest) is) ∙ e in ap (λ o. Rattle.std.specs.Prelude.unwrap_or o t.0) q)) is)
  at false is later = or_right (is_busy t.0 && t.1) (tells_busy rest) (later (sym (cond-false t.1 (Some t.0) (first_of rest) is) ∙ e))

-- of locks it asks what was seen of them
seen_last : (a b busy : Bool) → ((a && b && busy) || false) ≡ true → busy ≡ true
seen_last a b true e = refl
seen_last true true false e = e
seen_last true false false e = e
seen_last false b false e = e

module _ (seen : Seen) (tx : Transaction) where
  by_tests : (op : Operation) → tells_busy (tests seen tx op) ≡ true → seen.busy ≡ true
  by_tests (operation.Begin wants) e = seen_last (nat_le 1 tx.level) (list_any (is_tried tx) wants) seen.busy e
  by_tests (operation.Lock want) e = seen_last (nat_le 1 tx.level) (list_any (is_tried tx) (want ∷ [])) seen.busy e
  by_tests (operation.AddRange id at len) e = absurd (both_ways false refl e)
  by_tests (operation.Write id at bytes) e = absurd (both_ways false refl e)
  by_tests (operation.Read id at len) e = absurd (both_ways false refl e)
  by_tests (operation.Increment id at by) e = absurd (both_ways false refl e)
  by_tests (operation.Alloc size kind) e = absurd (both_ways false refl e)
  by_tests (operation.Free id) e = absurd (both_ways false refl e)
  by_tests operation.Publish e = absurd (both_ways false refl e)
  by_tests operation.Commit e = absurd (both_ways false refl e)
  by_tests (operation.Abort errnum) e = absurd (both_ways false refl e)
  by_tests (operation.Reserve size kind) e = absurd (both_ways false refl e)
  by_tests (operation.WriteReserved id at bytes) e = absurd (both_ways false refl e)
  by_tests (operation.DeferFree id) e = absurd (both_ways false refl e)
  by_tests (operation.SetValue id at value) e = absurd (both_ways false refl e)
  by_tests operation.Cancel e = absurd (both_ways false refl e)
  by_tests (operation.AllocTo dest size kind) e = absurd (both_ways false refl e)
  by_tests (operation.ReallocAt dest size kind) e = absurd (both_ways false refl e)
  by_tests (operation.FreeAt dest) e = absurd (both_ways false refl e)
  by_tests (operation.UsableSize id) e = absurd (both_ways false refl e)
  by_tests (operation.TypeNumber id) e = absurd (both_ways false refl e)
  by_tests (operation.Insert head at id) e = absurd (both_ways false refl e)
  by_tests (operation.InsertNew head at size kind) e = absurd (both_ways false refl e)
  by_tests (operation.Remove head id free) e = absurd (both_ways false refl e)
  by_tests (operation.MoveTo head new_head at id) e = absurd (both_ways false refl e)
  by_tests (operation.Members head) e = absurd (both_ways false refl e)
  by_tests (operation.Root size) e = absurd (both_ways false refl e)
  by_tests operation.RootSize e = absurd (both_ways false refl e)

  -- SO IT WAS SEEN
  pub busy_was_seen : (op : Operation) → refusal_of seen tx op ≡ Some Busy → seen.busy ≡ true
  busy_was_seen op e = by_tests op (busy_applies (tests seen tx op) e)

-- ---- replies

abbrev refused_in : Option Value → Refusal → Refusal
refused_in (Some (Refused r)) other = r
refused_in reply other = other

-- the refusal that a reply tells
pub told_refusal : (r other : Refusal) → Some (Refused r) ≡ Some (Refused other) → r ≡ other
told_refusal r other e = ap (λ o. refused_in o r) e

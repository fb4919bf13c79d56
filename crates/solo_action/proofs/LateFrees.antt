-- Where something pending was asked for late, of an object that was to be freed already, something is to be freed.
use Rattle.std.proofs.Common.{◌≡◌, ⊎_elim, ℕ, ◌≤◌, true, eqb, ◌||◌, List, [], ◌∷◌, length, Option, Some, arith}
use Rattle.std.specs.List.{list_any}
use Rattle.std.proofs.lemmas.Bool.{false≢true, or_cases}
use Rattle.std.proofs.lemmas.List.{length-append}
use Rattle.solo_crash.specs.Pending.{pending_before, pending_behind, pending_from, pending_told}
use Rattle.solo_model.specs.Actions.{Pending, is_to_be_freed, none_pending}
use Rattle.pm_objects.specs.declared.calls.Operation.{Operation}
use Rattle.pm_objects.specs.declared.calls.Operation.TheVariants.{Cancel, DeferFree, Publish, Reserve, SetValue, WriteReserved}
use Rattle.pm_objects.specs.declared.history.Value.{Value}
use Rattle.pm_objects.specs.declared.history.Value.TheVariants.{Offset, Refused}
use Rattle.pm_objects.specs.declared.ids.Oid.{Oid}
use Rattle.solo_view.specs.View.{Numbered, Told, View}

abbrev FreesIfLate : Pending → Type 0
FreesIfLate p = p.late ≡ true → 1 ≤ length p.frees

-- an object is to be freed only where some are
some_freed : (off : ℕ) (ids : List Oid) → list_any (λ (id : Oid). eqb id.off off) ids ≡ true → 1 ≤ length ids
some_freed off [] none = absurd (false≢true none)
some_freed off (id ∷ ids) some = omega arith

late_or_freed : (off : ℕ) (p : Pending) → FreesIfLate p → (is_to_be_freed p off || p.late) ≡ true → 1 ≤ length p.frees
late_or_freed off p so is = ⊎_elim
    (λ (freed : is_to_be_freed p off ≡ true). some_freed off p.frees freed)
    (λ (late : p.late ≡ true). so late)
    (or_cases (is_to_be_freed p off) p.late is)

behind_so : (op : Operation) (reply : Option Value) (p : Pending) → FreesIfLate p → FreesIfLate (pending_behind op reply p)
behind_so op (Some (Refused r)) p so late = so late
behind_so (Reserve size kind) (Some (Offset off)) p so late = so late
behind_so (WriteReserved id off bytes) reply p so late = so late
behind_so (DeferFree id) reply p so late = let n = length-append p.frees (id ∷ []) in omega (arith, n)
behind_so (SetValue id off value) reply p so late = late_or_freed id.off p so late
behind_so Publish reply p so late = absurd (false≢true late)
behind_so Cancel reply p so late = absurd (false≢true late)
behind_so op reply p so late = so late

told_so : (p : Pending) (told : List Told) → FreesIfLate p → FreesIfLate (pending_told p told)
unfolding pending_told
told_so p [] so = so
told_so p (t ∷ told) so = told_so (pending_behind t.operation t.reply p) told (behind_so t.operation t.reply p so)

from_so : (p : Pending) (calls : List Numbered) → FreesIfLate p → FreesIfLate (pending_from p calls)
unfolding pending_from
from_so p [] so = so
from_so p (e ∷ calls) so = from_so (pending_told p e.call) calls (told_so p e.call so)

pub late_frees : (v : View) → (pending_before v).late ≡ true → 1 ≤ length (pending_before v).frees
late_frees v = from_so none_pending v.entries (λ late. absurd (false≢true late))

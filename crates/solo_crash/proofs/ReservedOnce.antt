-- What is reserved stands once at an offset: so it does with one more elsewhere, two at one offset are one, and the one at an offset is found there.
use Rattle.std.proofs.Common.{◌≡◌, ◌≢◌, ⊎_elim, ℕ, false, eqb, List, [], ◌∷◌, ◌++◌, map, Some, refl, sym, ◌∙◌, ap, subst}
use Rattle.std.specs.Prelude.{nat_eq}
use Rattle.std.specs.List.{Contains, IsDistinct, find, list_any}
use Rattle.std.proofs.lemmas.Bool.{cond-false, cond-true, eq-eqb, ne_eqb, or_from}
use Rattle.std.proofs.lemmas.List.{map-append}
use Rattle.pm_image.proofs.Members.{first_member, later_member, member_cases, no_member}
use Rattle.solo_model.specs.Actions.{Reservation}
use Rattle.solo_crash.specs.CallBlocks.{NewObject, is_at, reserved_object}
use Rattle.solo_crash.proofs.Includes.{made_member}
use Rattle.solo_crash.proofs.ManyObjects.{none_at, others_apart, AreOnce}
use Rattle.solo_crash.proofs.OnceMade.{once_more}

abbrev pub AreOnceReserved : List Reservation → Type 0
AreOnceReserved rs = IsDistinct nat_eq (map (λ (r : Reservation). r.off) rs)

-- their objects do
same_offsets : (rs : List Reservation) → map (λ (n : NewObject). n.off) (map reserved_object rs) ≡ map (λ (r : Reservation). r.off) rs
same_offsets [] = refl
same_offsets (r ∷ rs) = ap (λ (offs : List ℕ). r.off ∷ offs) (same_offsets rs)

as_objects : (rs : List Reservation) → AreOnceReserved rs → AreOnce (map reserved_object rs)
as_objects rs = subst (IsDistinct nat_eq) (sym (same_offsets rs))

none_there : (rs : List Reservation) (off : ℕ) → ((s : Reservation) → Contains rs s → s.off ≢ off) → list_any (is_at off) (map reserved_object rs) ≡ false
none_there [] off other = refl
none_there (r ∷ rs) off other =
    or_from (eqb r.off off) (list_any (is_at off) (map reserved_object rs)) (ne_eqb r.off off (other r (first_member r rs))) (none_there rs off (λ s there. other s (later_member r rs s there)))

pub reserved_once_more : (rs : List Reservation) (r : Reservation) → AreOnceReserved rs → ((s : Reservation) → Contains rs s → s.off ≢ r.off) → AreOnceReserved (rs ++ r ∷ [])
reserved_once_more rs r once other =
    subst (IsDistinct nat_eq) (same_offsets (rs ++ r ∷ []))
    (subst AreOnce (sym (map-append reserved_object rs (r ∷ []))) (once_more (map reserved_object rs) (reserved_object r) (as_objects rs once) (none_there rs r.off other)))

pub tail_once : (r : Reservation) (rs : List Reservation) → AreOnceReserved (r ∷ rs) → AreOnceReserved rs
unfolding IsDistinct
tail_once r rs once = once.1

-- no other is where the first is
pub first_alone : (r : Reservation) (rs : List Reservation) → AreOnceReserved (r ∷ rs) → (s : Reservation) → Contains rs s → s.off ≢ r.off
first_alone r rs once s there =
    none_at r.off (map reserved_object rs) (reserved_object s) (others_apart (reserved_object r) (map reserved_object rs) (as_objects (r ∷ rs) once)).0 (made_member reserved_object rs s there)

pub one_reserved : (rs : List Reservation) (r s : Reservation) → AreOnceReserved rs → Contains rs r → Contains rs s → r.off ≡ s.off → r ≡ s
one_reserved [] r s once there too same = absurd (no_member r there)
one_reserved (x ∷ xs) r s once there too same = ⊎_elim
    (λ (here : x ≡ r). ⊎_elim
    (λ (also : x ≡ s). sym here ∙ also)
    (λ (later : Contains xs s). absurd (first_alone x xs once s later (sym same ∙ ap (λ (y : Reservation). y.off) (sym here))))
    (member_cases x xs s too))
    (λ (later : Contains xs r). ⊎_elim
    (λ (also : x ≡ s). absurd (first_alone x xs once r later (same ∙ ap (λ (y : Reservation). y.off) (sym also))))
    (λ (rest : Contains xs s). one_reserved xs r s (tail_once x xs once) later rest same)
    (member_cases x xs s too))
    (member_cases x xs r there)

-- it is found where it is
pub reserved_found : (rs : List Reservation) (r : Reservation) → AreOnceReserved rs → Contains rs r → find (λ (s : Reservation). eqb s.off r.off) rs ≡ Some r
reserved_found [] r once there = absurd (no_member r there)
reserved_found (x ∷ xs) r once there = ⊎_elim
    (λ (here : x ≡ r). cond-true (eqb x.off r.off) (Some x) (find (λ (s : Reservation). eqb s.off r.off) xs) (eq-eqb x.off r.off (ap (λ (y : Reservation). y.off) here)) ∙ ap (λ (y : Reservation). Some y) here)
    (λ (later : Contains xs r).
    cond-false (eqb x.off r.off) (Some x) (find (λ (s : Reservation). eqb s.off r.off) xs) (ne_eqb x.off r.off (λ same. first_alone x xs once r later (sym same))) ∙ reserved_found xs r (tail_once x xs once) later)
    (member_cases x xs r there)

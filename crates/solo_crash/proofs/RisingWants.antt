-- Wants of different objects are each a lock of its own, in their order.
use Rattle.std.proofs.Common.{◌≡◌, ⊎_elim, ℕ, ◌<◌, Bool, eqb, List, [], ◌∷◌, ◌++◌, map, refl, sym, ◌∙◌, ap, subst, arith}
use Rattle.std.specs.List.{Contains}
use Rattle.std.specs.List.Sorted.{IsStrictlyIncreasing}
use Rattle.std.proofs.lemmas.Bool.{cond-false, ne_eqb}
use Rattle.std.proofs.lemmas.List.{append-nil, append_assoc}
use Rattle.std.proofs.lemmas.List.Elements.{Contains-push_cases}
use Rattle.pm_objects.specs.declared.calls.Want.{Want}
use Rattle.pm_image.proofs.Members.{first_member, later_member, member_cases, no_member}
use Rattle.solo_model.specs.Transaction.{Lock as Locked, locked, locked_all}
use Rattle.solo_model.proofs.Objects.{rising_tail}
use Rattle.solo_crash.specs.OpenCall.{lock_wanted}

-- a lock of an object of which none is held comes last
locked_last : (off : ℕ) (write : Bool) (locks : List Locked) → ((l : Locked) → Contains locks l → l.off < off) → locked off write locks ≡ locks ++ record { off = off; write = write } ∷ []
unfolding locked
locked_last off write [] others = refl
locked_last off write (l ∷ locks) others =
    let below : l.off < off = others l (first_member l locks) in
    cond-false (eqb l.off off) _ (l ∷ locked off write locks) (ne_eqb l.off off (λ same. omega arith))
    ∙ ap (λ (ls : List Locked). l ∷ ls) (locked_last off write locks (λ k there. others k (later_member l locks k there)))

-- the first of rising numbers is below each other
first_below : (x y : ℕ) (xs : List ℕ) → IsStrictlyIncreasing (x ∷ xs) → Contains xs y → x < y
first_below x y [] rising there = absurd (no_member y there)
first_below x y (z ∷ xs) rising there =
    let next : x < z = rising 0 (omega arith) in
    ⊎_elim
    (λ (here : z ≡ y). omega arith)
    (λ (later : Contains xs y). let behind : z < y = first_below z y xs (rising_tail x (z ∷ xs) rising) later in omega arith)
    (member_cases z xs y there)

abbrev offset_wanted : Want → ℕ
offset_wanted want = want.id.off

all_last : (wants : List Want) (locks : List Locked) → IsStrictlyIncreasing (map offset_wanted wants) → ((l : Locked) (y : ℕ) → Contains locks l → Contains (map offset_wanted wants) y → l.off < y)
    → locked_all wants locks ≡ locks ++ map lock_wanted wants
unfolding locked_all
all_last [] locks rising below = sym (append-nil locks)
all_last (want ∷ wants) locks rising below =
    let more : List Locked = locks ++ lock_wanted want ∷ [] in
    let rest : List ℕ = map offset_wanted wants in
    ap (locked_all wants) (locked_last want.id.off want.write locks (λ l there. below l want.id.off there (first_member want.id.off rest)))
    ∙ all_last wants more (rising_tail want.id.off rest rising) (λ l y there later. ⊎_elim
    (λ (old : Contains locks l). below l y old (later_member want.id.off rest y later))
    (λ (new : lock_wanted want ≡ l).
    let first : want.id.off < y = first_below want.id.off y rest rising later in
    subst (λ (k : Locked). k.off < y) new first)
    (Contains-push_cases locks (lock_wanted want) l there))
    ∙ append_assoc locks (lock_wanted want ∷ []) (map lock_wanted wants)

pub rising_wants : (wants : List Want) → IsStrictlyIncreasing (map (λ (want : Want). want.id.off) wants) → locked_all wants [] ≡ map lock_wanted wants
rising_wants wants rising = all_last wants [] rising (λ l y there later. absurd (no_member l there))

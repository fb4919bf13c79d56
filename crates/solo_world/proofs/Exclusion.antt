-- Two lanes never have the right to one word, and no lane writes what another knows.
use Rattle.std.proofs.Common.{◌≡◌, ◌≢◌, ℕ, ◌+◌, ◌^◌, ⊎_elim, Bool, true, false, ◌&&◌, IsTrue, IfSome, All, Option, Some, None, is_some, sym, ap, ◌∙◌, arith}
use Rattle.std.proofs.lemmas.Bool.{cases_eq, false≢true}
use Rattle.std.proofs.lemmas.Nat.Bits.{bit_at-pow_same, bit_at-pow_other}
use Rattle.std.specs.Int.{bit_at}
use Rattle.std.proofs.lemmas.List.Elements.{All-contains}
use Rattle.std.proofs.lemmas.List.Folds.{Any-from_list_any}
use Rattle.solo_view.specs.Held.{is_under_found}
use Rattle.solo_view.specs.Rights.{is_written}
use Rattle.solo_view.specs.View.{View, Lock}
use Rattle.solo_view.specs.Blocks.{block_at}
use Rattle.solo_memory.specs.LockWords.{writer_bit}
use Rattle.solo_world.specs.Fits.{LockFits, ShowsHold}
use Rattle.solo_world.specs.Memory.{Memory}
use Rattle.solo_world.specs.Memory.Location.{LockWord}
use Rattle.solo_world.specs.Opening.{Opening, Guards, IsSound}

-- lane k holds for writing the lock of a line that guards the word
abbrev pub WritesUnder : Opening → Memory → ℕ → ℕ → Type 0
WritesUnder o mem k w = (line : ℕ) × Guards o line w × (mem (LockWord line) ≡ writer_bit k)

by_lock : (o : Opening) (mem : Memory) (k w line : ℕ) (write : Bool) (block : Option ℕ) → ShowsHold k write (mem (LockWord line)) → IfSome block (λ lines. block_at o.lanes o.words line ≡ Some lines)
    → (write && is_some block && is_under_found line block w) ≡ true → WritesUnder o mem k w
by_lock o mem k w line true (Some lines) shows found e = (line, record { lines = lines; block = found; inside = e }, shows)
by_lock o mem k w line true None shows found e = absurd (false≢true e)
by_lock o mem k w line false (Some lines) shows found e = absurd (false≢true e)
by_lock o mem k w line false None shows found e = absurd (false≢true e)

pub writes_under : (o : Opening) (mem : Memory) (k : ℕ) (v : View) (w : ℕ) → All (LockFits o mem k) v.locks → IsTrue (is_written v w) → WritesUnder o mem k w
writes_under o mem k v w fits e =
    let t = Any-from_list_any (λ (l : Lock). l.write && is_some l.block && is_under_found l.line l.block w) v.locks e in
    let l : Lock = t.1 in
    let fit = All-contains (LockFits o mem k) v.locks l fits (t.0, t.2, t.3) in
    by_lock o mem k w l.line l.write l.block fit.shows fit.found t.4

pub pow_injective : (a b : ℕ) → 2 ^ a ≡ 2 ^ b → a ≡ b
pow_injective a b e =
    ⊎_elim (λ (same : a ≡ b). same)
    (λ (differ : a ≢ b). let one = bit_at-pow_same a in let none = bit_at-pow_other b a differ in let both = ap (λ n. bit_at n a) e in absurd (let x : bit_at (2 ^ a) a ≡ 1 = one in let y : bit_at (2 ^ b) a ≡ 0 = none in omega (arith, x, y, both)))
    (cases_eq a b)

-- one lane at most
pub one_writer : (o : Opening) (mem : Memory) (j k w : ℕ) → IsSound o → WritesUnder o mem j w → WritesUnder o mem k w → j ≡ k
one_writer o mem j k w sound (line, guard, word) (other, guard', word') =
    let same = sound.one_guard line other w guard guard' in
    let e : 2 ^ (32 + j) ≡ 2 ^ (32 + k) = sym word ∙ (ap (λ l. mem (LockWord l)) same ∙ word') in
    let f = pow_injective (32 + j) (32 + k) e in omega arith

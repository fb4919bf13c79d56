-- A history with one more entry.
use Rattle.std.proofs.Common.{◌≡◌, ℕ, ◌+◌, Bool, true, false, cond, eqb, List, [], ◌∷◌, ◌++◌, length, refl, ap, ◌∙◌, arith}
use Rattle.std.proofs.lemmas.Bool.{false≢true}
use Rattle.solo_view.specs.Log.{Final}
use Rattle.solo_view.specs.View.{Numbered}
use Rattle.solo_world.specs.Course.{is_empty}
use Rattle.solo_world.specs.History.{Entry, made_final, is_final, replayed, AreNumbered, entries_by}

-- the last entry leaves the word
pub replayed-skip : (keep : ℕ → Bool) (log : List Entry) (e : Entry) (w x : ℕ) → ((y : ℕ) → cond (keep e.number) (made_final e.difference w y) y ≡ y) → replayed keep (log ++ e ∷ []) w x ≡ replayed keep log w x
unfolding replayed
replayed-skip keep [] e w x leaves = leaves x
replayed-skip keep (d ∷ log) e w x leaves = replayed-skip keep log e w (cond (keep d.number) (made_final d.difference w x) x) leaves

pub empty-other : (difference : List Final) (w : ℕ) → is_empty difference ≡ true → is_final difference w ≡ false
empty-other [] w e = refl
empty-other (f ∷ difference) w e = absurd (false≢true e)

pub numbered-more : (n : ℕ) (log : List Entry) (e : Entry) → AreNumbered n log → e.number ≡ n + length log → AreNumbered n (log ++ e ∷ [])
unfolding AreNumbered
numbered-more n [] e numbered next = (omega arith, tt)
numbered-more n (d ∷ log) e numbered next = (numbered.0, numbered-more (n + 1) log e numbered.1 (omega arith))

more_in : (e : Entry) (one : Numbered) (here : Bool) (entries others : List Numbered) → cond here (one ∷ (entries ++ others)) (entries ++ others) ≡ cond here (one ∷ entries) entries ++ others
more_in e one true entries others = refl
more_in e one false entries others = refl

pub entries_by-more : (lane : ℕ) (log : List Entry) (e : Entry) → entries_by lane (log ++ e ∷ []) ≡ entries_by lane log ++ cond (eqb e.lane lane) (record { number = e.number; call = e.call } ∷ []) []
unfolding entries_by
entries_by-more lane [] e = refl
entries_by-more lane (d ∷ log) e =
    ap (λ entries. cond (eqb d.lane lane) (record { number = d.number; call = d.call } ∷ entries) entries) (entries_by-more lane log e)
    ∙ more_in d (record { number = d.number; call = d.call }) (eqb d.lane lane) (entries_by lane log) (cond (eqb e.lane lane) (record { number = e.number; call = e.call } ∷ []) [])

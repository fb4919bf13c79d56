-- The lock word of a line, as the held locks change.
use Rattle.std.proofs.Common.{◌≡◌, ◌≢◌, ◌⊎◌, inl, inr, ⊎_elim, ℕ, true, false, not, cond, eqb, List, [], ◌∷◌, ◌++◌, map, refl, sym, ap, ◌∙◌, arith, eq-eqb, ne_eqb}
use Rattle.std.specs.List.{filter}
use Rattle.std.proofs.lemmas.Bool.{cases_eq, cond-true, cond-false}
use Rattle.solo_view.specs.View.{Lock}
use Rattle.solo_view.specs.Views.{raised}
use Rattle.solo_memory.specs.LockWords.{reader_bit, writer_bit}
use Rattle.solo_memory.specs.Solo.{lock_word}

-- what a held lock makes its line's word
abbrev pub held_word : Lock → ℕ
held_word l = cond l.write (writer_bit 0) (reader_bit 0)

held_word-values : (l : Lock) → (held_word l ≡ reader_bit 0) ⊎ (held_word l ≡ writer_bit 0)
held_word-values l = elim l.write as (λ b. (cond b (writer_bit 0) (reader_bit 0) ≡ reader_bit 0) ⊎ (cond b (writer_bit 0) (reader_bit 0) ≡ writer_bit 0)) [ true ↦ inr refl | false ↦ inl refl ]

-- a lock word of one lane is one of three
pub lock_word-values : (locks : List Lock) (line : ℕ) → (lock_word locks line ≡ 0) ⊎ ((lock_word locks line ≡ reader_bit 0) ⊎ (lock_word locks line ≡ writer_bit 0))
lock_word-values [] line = inl refl
lock_word-values (l ∷ locks) line =
    elim (eqb l.line line) as (λ b. (cond b (held_word l) (lock_word locks line) ≡ 0) ⊎ ((cond b (held_word l) (lock_word locks line) ≡ reader_bit 0) ⊎ (cond b (held_word l) (lock_word locks line) ≡ writer_bit 0))) [
      | true ↦ inr (held_word-values l)
      | false ↦ lock_word-values locks line
    ]

-- the first held lock of a line makes its word, and the others do not count
pub lock_word-here : (l : Lock) (locks : List Lock) (line : ℕ) → l.line ≡ line → lock_word (l ∷ locks) line ≡ held_word l
lock_word-here l locks line here = cond-true _ _ _ (eq-eqb l.line line here)

pub lock_word-there : (l : Lock) (locks : List Lock) (line : ℕ) → l.line ≢ line → lock_word (l ∷ locks) line ≡ lock_word locks line
lock_word-there l locks line there = cond-false _ _ _ (ne_eqb l.line line there)

-- one more lock, of another line or of a line with none
pub lock_word-append_other : (locks : List Lock) (l : Lock) (line : ℕ) → l.line ≢ line → lock_word (locks ++ l ∷ []) line ≡ lock_word locks line
lock_word-append_other [] l line other = lock_word-there l [] line other
lock_word-append_other (k ∷ locks) l line other = ap (cond (eqb k.line line) (held_word k)) (lock_word-append_other locks l line other)

pub lock_word-append_same : (locks : List Lock) (l : Lock) (line : ℕ) → l.line ≡ line → lock_word locks line ≡ 0 → lock_word (locks ++ l ∷ []) line ≡ held_word l
lock_word-append_same [] l line here free = lock_word-here l [] line here
lock_word-append_same (k ∷ locks) l line here free =
    ⊎_elim
    (λ (same : k.line ≡ line). let e = lock_word-here k locks line same in absurd (⊎_elim (λ (r : held_word k ≡ reader_bit 0). omega (arith, r, e, free)) (λ (w : held_word k ≡ writer_bit 0). omega (arith, w, e, free)) (held_word-values k)))
    (λ (other : k.line ≢ line). let e = lock_word-there k locks line other in lock_word-there k (locks ++ l ∷ []) line other ∙ lock_word-append_same locks l line here (sym e ∙ free))
    (cases_eq k.line line)

-- what changes neither the line of a lock nor whether it is for writing
pub lock_word-map : (f : Lock → Lock) → ((l : Lock) → (f l).line ≡ l.line) → ((l : Lock) → (f l).write ≡ l.write) → (locks : List Lock) (line : ℕ) → lock_word (map f locks) line ≡ lock_word locks line
lock_word-map f line_stays write_stays [] line = refl
lock_word-map f line_stays write_stays (l ∷ locks) line =
    ap (λ n. cond (eqb n line) (held_word (f l)) (lock_word (map f locks) line)) (line_stays l)
    ∙ (ap (λ b. cond (eqb l.line line) (cond b (writer_bit 0) (reader_bit 0)) (lock_word (map f locks) line)) (write_stays l)
    ∙ ap (cond (eqb l.line line) (held_word l)) (lock_word-map f line_stays write_stays locks line))

abbrev written : ℕ → Lock → Lock
written line l = cond (eqb l.line line) (record l { write = true }) l

line-written : (line : ℕ) (l : Lock) → (written line l).line ≡ l.line
line-written line l = elim (eqb l.line line) as (λ b. (let k : Lock = cond b (record l { write = true }) l in k.line) ≡ l.line) [ true ↦ refl | false ↦ refl ]

-- a lock is raised: another line's word stays, and that of a held line is the writer's
pub lock_word-raised_other : (locks : List Lock) (line other : ℕ) → line ≢ other → lock_word (raised line true locks) other ≡ lock_word locks other
lock_word-raised_other [] line other differ = refl
lock_word-raised_other (l ∷ locks) line other differ =
    let rest = lock_word-raised_other locks line other differ in
    ⊎_elim
    (λ (same : l.line ≡ line). lock_word-there (written line l) (raised line true locks) other (λ e. differ (sym same ∙ (sym (line-written line l) ∙ e))) ∙ (rest ∙ sym (lock_word-there l locks other (λ e. differ (sym same ∙ e)))))
    (λ (apart : l.line ≢ line). let e : written line l ≡ l = cond-false _ _ _ (ne_eqb l.line line apart) in ap (λ k. lock_word (k ∷ raised line true locks) other) e ∙ ap (cond (eqb l.line other) (held_word l)) rest)
    (cases_eq l.line line)

pub lock_word-raised_same : (locks : List Lock) (line : ℕ) → lock_word locks line ≢ 0 → lock_word (raised line true locks) line ≡ writer_bit 0
lock_word-raised_same [] line held = absurd (held refl)
lock_word-raised_same (l ∷ locks) line held =
    ⊎_elim
    (λ (same : l.line ≡ line). let e : written line l ≡ record l { write = true } = cond-true _ _ _ (eq-eqb l.line line same) in ap (λ k. lock_word (k ∷ raised line true locks) line) e ∙ lock_word-here (record l { write = true }) (raised line true locks) line same)
    (λ (apart : l.line ≢ line). let e : written line l ≡ l = cond-false _ _ _ (ne_eqb l.line line apart) in
    ap (λ k. lock_word (k ∷ raised line true locks) line) e ∙ (lock_word-there l (raised line true locks) line apart ∙ lock_word-raised_same locks line (λ none. held (lock_word-there l locks line apart ∙ none))))
    (cases_eq l.line line)

abbrev others : ℕ → List Lock → List Lock
others line locks = filter (λ (l : Lock). not (eqb l.line line)) locks

others-here : (l : Lock) (locks : List Lock) (line : ℕ) → l.line ≡ line → others line (l ∷ locks) ≡ others line locks
others-here l locks line here = ap (λ b. cond (not b) (l ∷ others line locks) (others line locks)) (eq-eqb l.line line here)

others-there : (l : Lock) (locks : List Lock) (line : ℕ) → l.line ≢ line → others line (l ∷ locks) ≡ l ∷ others line locks
others-there l locks line there = ap (λ b. cond (not b) (l ∷ others line locks) (others line locks)) (ne_eqb l.line line there)

-- a lock is given back
pub lock_word-given_other : (locks : List Lock) (line other : ℕ) → line ≢ other → lock_word (others line locks) other ≡ lock_word locks other
lock_word-given_other [] line other differ = refl
lock_word-given_other (l ∷ locks) line other differ =
    let rest = lock_word-given_other locks line other differ in
    ⊎_elim
    (λ (same : l.line ≡ line). ap (λ ls. lock_word ls other) (others-here l locks line same) ∙ (rest ∙ sym (lock_word-there l locks other (λ e. differ (sym same ∙ e)))))
    (λ (apart : l.line ≢ line). ap (λ ls. lock_word ls other) (others-there l locks line apart) ∙ ap (cond (eqb l.line other) (held_word l)) rest)
    (cases_eq l.line line)

pub lock_word-given_same : (locks : List Lock) (line : ℕ) → lock_word (others line locks) line ≡ 0
lock_word-given_same [] line = refl
lock_word-given_same (l ∷ locks) line =
    ⊎_elim
    (λ (same : l.line ≡ line). ap (λ ls. lock_word ls line) (others-here l locks line same) ∙ lock_word-given_same locks line)
    (λ (apart : l.line ≢ line). ap (λ ls. lock_word ls line) (others-there l locks line apart) ∙ (lock_word-there l (others line locks) line apart ∙ lock_word-given_same locks line))
    (cases_eq l.line line)

-- How many changes of a pair are kept, pair by pair.
use Rattle.std.proofs.Common.{◌≡◌, ◌≢◌, ℕ, ◌+◌, ◌/◌, ◌%◌, ◌^◌, refl, sym, ap, ◌∙◌, ne_eqb, eq-eqb, add-one}
use Rattle.std.proofs.lemmas.Bool.{cond-false, cond-true}
use Rattle.pm_memory.specs.declared.survivors.Kept.TheVariants.{Nothing, Everything, Drawn}
use Rattle.pm_memory.specs.Keep.{next_number, nth_number, kept_of}
use Rattle.pm_memory.specs.Keeping.{kept_after}

pub nth_number-next : (seed n : ℕ) → nth_number seed (n + 1) ≡ next_number (nth_number seed n)
unfolding nth_number
nth_number-next seed n = rw add-one refl

pub kept_after-drawn : (keep draws : ℕ) → keep ≢ 0 → keep ≢ 1 → kept_after keep draws ≡ Drawn (nth_number keep draws)
kept_after-drawn keep draws some more = cond-false _ _ _ (ne_eqb keep 0 some) ∙ cond-false _ _ _ (ne_eqb keep 1 more)

kept_of-drawn : (keep draws n : ℕ) → keep ≢ 0 → keep ≢ 1 → kept_of keep draws n ≡ nth_number keep (draws + 1) / 2 ^ 33 % (n + 1)
kept_of-drawn keep draws n some more = cond-false _ _ _ (ne_eqb keep 0 some) ∙ cond-false _ _ _ (ne_eqb keep 1 more)

-- a drawn number is that of a seed other than 0 and 1
record IsDrawn (keep draws last : ℕ) : Type 0 where
  some : keep ≢ 0
  more : keep ≢ 1
  last_is : last ≡ nth_number keep draws

is_drawn : (keep draws last : ℕ) → Drawn last ≡ kept_after keep draws → IsDrawn keep draws last
is_drawn keep draws last is =
    let some : keep ≢ 0 = λ zero. let e : Drawn last ≡ Nothing = is ∙ cond-true _ _ _ (eq-eqb keep 0 zero) in cc in
    let more : keep ≢ 1 = λ one. let e : Drawn last ≡ Everything = is ∙ (cond-false _ _ _ (ne_eqb keep 0 some) ∙ cond-true _ _ _ (eq-eqb keep 1 one)) in cc in
    let same : Drawn last ≡ Drawn (nth_number keep draws) = is ∙ kept_after-drawn keep draws some more in
    record { some = some; more = more; last_is = cc }

pub drawn_kept : (keep draws last number n : ℕ) → number ≡ next_number last → Drawn last ≡ kept_after keep draws → number / 2 ^ 33 % (n + 1) ≡ kept_of keep draws n
drawn_kept keep draws last number n next is =
    let drawn = is_drawn keep draws last is in
    let same : number ≡ nth_number keep (draws + 1) = next ∙ (ap next_number drawn.last_is ∙ sym (nth_number-next keep draws)) in
    ap (λ x. x / 2 ^ 33 % (n + 1)) same ∙ sym (kept_of-drawn keep draws n drawn.some drawn.more)

pub drawn_moved : (keep draws last number : ℕ) → number ≡ next_number last → Drawn last ≡ kept_after keep draws → Drawn number ≡ kept_after keep (draws + 1)
drawn_moved keep draws last number next is =
    let drawn = is_drawn keep draws last is in
    let same : number ≡ nth_number keep (draws + 1) = next ∙ (ap next_number drawn.last_is ∙ sym (nth_number-next keep draws)) in
    ap (λ (x : ℕ). Drawn x) same ∙ sym (kept_after-drawn keep (draws + 1) drawn.some drawn.more)

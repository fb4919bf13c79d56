-- WHAT A LOOK TELLS: an object is found at its line, or each block that would begin there is missed.
use Rattle.std.proofs.Common.{inl, inr, ◌≡◌, ℕ, suc, ◌+◌, ◌-◌, ◌*◌, ◌/◌, ◌%◌, ◌<◌, ◌≤◌, nat_lt, Bool, true, false, not, cond, Some, ◌==◌, ◌&&◌, ◌||◌, List, [], ◌∷◌, length, leb, refl, sym, ap, ◌∙◌, subst, arith, eq-eqb, ne_eqb}
use Rattle.std.specs.Int.{bit_at}
use Rattle.std.specs.Prelude.{find}
use Rattle.std.specs.Option.{option_map_or}
use Rattle.std.proofs.lemmas.Nat.{div-mul-add, div_below}
use Rattle.std.proofs.Math.Nat.{mul_comm, mul-mod_left}
use Rattle.std.proofs.lemmas.Bool.{and_from, and_parts, both_ways, cond_both, cond-false, cond-true, eqb-true, false_from_ne_true, le-leb, leb-true, lt-ltb, or_left, or_right}
use Rattle.pm_layout.specs.declared.shape.Shape.{Shape}
use Rattle.pm_layout.specs.Chunks.{chunks_of, line_of_chunk, page_of_chunk, word_of_chunk, word_of_descriptor}
use Rattle.pm_layout.specs.Sizes.{blocks_by_class, blocks_of}
use Rattle.pm_view.specs.Claims.{Claim, Knows, SawBitmap, SawDescriptor, class, found, header_in, holds, is_huge, is_run, shown_by_bitmap, shown_by_descriptor}
use Rattle.pm_view.specs.Places.{Block, Small, Big, Root}
use Rattle.pm_view.specs.View.{View}
use Rattle.pm_world.specs.Causes.{misses_in_bitmap, misses_in_descriptor, times_missed}
use Rattle.pm_lock.specs.Objects.{CanLook, IsMissedSince, LookTells, MissesAt, MissesGrow, StandsAt, ToldNoRun, chunk_of_line, shows, shows_small}
use Rattle.pm_world.proofs.StepMark.{some_class}
use Rattle.pm_world.proofs.WordPlaces.{page_apart}
use Rattle.pm_lock.proofs.Looks.{chunk_line}

-- ---- THE BLOCKS OF A RUN end within its chunk
abbrev AllFit : List (ℕ × ℕ) → Type 0
AllFit [] = ℕ
AllFit (e ∷ t) = ((i : ℕ) → i < e.1 → 1 + (e.0 * i + e.0) ≤ 64) × AllFit t

fit_in : (t : List (ℕ × ℕ)) → AllFit t → (lines i : ℕ) → i < option_map_or (λ e. e.1) (find (λ e. e.0 == lines) t) 0 → 1 + (lines * i + lines) ≤ 64
fit_in [] f lines i = λ q. absurd (omega arith)
fit_in (e ∷ t) f lines i = cond_both (e.0 == lines) (Some e) (find (λ e. e.0 == lines) t)
    (λ r. i < option_map_or (λ e. e.1) r 0 → 1 + (lines * i + lines) ≤ 64)
    (λ s q. subst (λ n. 1 + (n * i + n) ≤ 64) (eqb-true e.0 lines s) (f.0 i q))
    (λ _ q. fit_in t f.1 lines i q)

all_fit : AllFit blocks_by_class
all_fit = (λ i q. omega arith, (λ i q. omega arith, (λ i q. omega arith, (λ i q. omega arith, (λ i q. omega arith, (λ i q. omega arith, (λ i q. omega arith, (λ i q. omega arith, 0))))))))

pub run_fits : (lines i : ℕ) → i < blocks_of lines → 1 + (lines * i + lines) ≤ 64
run_fits lines i q = fit_in blocks_by_class all_fit lines i q

module _ (v : View) (line d b : ℕ) (can : CanLook v v.fixed.shape line) (grown : MissesGrow v) where
  abbrev sh : Shape
  sh = v.fixed.shape

  abbrev c : ℕ
  c = chunk_of_line v.fixed.shape line

  abbrev at_line : ℕ
  at_line = line % 64

  inside : c < chunks_of sh
  inside = (chunk_line sh line can.chunk).0

  line_is : line ≡ line_of_chunk sh c + at_line
  line_is = let p = (chunk_line sh line can.chunk).1 in let e : line ≡ 64 * (line / 64) + line % 64 = omega arith in e ∙ ap (λ n. 64 * n + line % 64) (sym p)

  -- a line of a chunk, by its place there, is of one chunk
  one_chunk : (f m : ℕ) → m < 64 → line_of_chunk sh f + m ≡ line → (f ≡ c) × (at_line ≡ m)
  one_chunk f m low e = let p = (chunk_line sh line can.chunk).1 in (page_apart sh f c (let z : page_of_chunk sh f ≡ line / 64 = omega (arith, low, e) in z ∙ sym p), omega (arith, low, e))

  small_chunk : (lines f i : ℕ) → i < blocks_of lines → line_of_chunk sh f + (1 + lines * i) ≡ line → (f ≡ c) × (at_line ≡ 1 + lines * i)
  small_chunk lines f i few e = let fits = run_fits lines i few in let some = some_class lines (omega (arith, few)) in one_chunk f (1 + lines * i) (omega (arith, fits, some)) e

  big_chunk : (f : ℕ) → line_of_chunk sh f ≡ line → (f ≡ c) × (at_line ≡ 0)
  big_chunk f e = one_chunk f 0 (omega arith) (let z : line_of_chunk sh f + 0 ≡ line_of_chunk sh f = omega arith in z ∙ e)

  abbrev pub told_descriptor : List Claim
  told_descriptor = Knows (word_of_descriptor v.fixed.shape (chunk_of_line v.fixed.shape line)) d ∷ SawDescriptor (chunk_of_line v.fixed.shape line) d ∷ v.claims

  abbrev pub told_bitmap : List Claim
  told_bitmap = Knows (word_of_chunk v.fixed.shape (chunk_of_line v.fixed.shape line)) b ∷ SawBitmap (chunk_of_line v.fixed.shape line) b ∷ told_descriptor

  -- a block that is missed more often than before is so since each entry
  missed_since : (claims : List Claim) (B : Block) → times_missed sh B v.claims < times_missed sh B claims → IsMissedSince sh v.claims (record v { claims = claims }) B
  missed_since claims B more = record { more = more; since = λ e there. let few = grown e there B in omega (arith, few, more) }

  -- ---- the chunk is no run
  module _ (no_run : is_run d ≡ false) where
    huge_stands : (is_huge d && at_line == 0) ≡ true → StandsAt (record v { claims = told_descriptor }) line
    huge_stands e = let p = and_parts (is_huge d) (at_line == 0) e in let zero_ : at_line ≡ 0 = eqb-true at_line 0 p.1 in
        let begins : header_in sh v.claims (Big c) ≡ line = sym (line_is ∙ ap (λ n. line_of_chunk sh c + n) zero_ ∙ (let z : line_of_chunk sh c + 0 ≡ line_of_chunk sh c = omega arith in z)) in
        record {
          block = Big c;
          inside = lt-ltb c (chunks_of sh) inside;
          known = tt;
          begins = begins;
          found = or_left (shown_by_descriptor sh v.claims c d (Big c)) (found sh v.claims (Big c))
              (and_from (c == c) (is_huge d && holds v.claims (header_in sh v.claims (Big c))) (eq-eqb c c refl) (and_from (is_huge d) (holds v.claims (header_in sh v.claims (Big c))) p.0 (ap (holds v.claims) begins ∙ can.held)));
        }

    counts : (B : Block) → misses_in_descriptor sh v.claims c d B ≡ true → IsMissedSince sh v.claims (record v { claims = told_descriptor }) B
    counts B m = missed_since told_descriptor B (let n : ℕ = cond (misses_in_descriptor sh v.claims c d B) 1 0 in let one : n ≡ 1 = cond-true (misses_in_descriptor sh v.claims c d B) 1 0 m in let more : times_missed sh B v.claims < n + times_missed sh B v.claims = omega (arith, one) in more)

    -- each block of the chunk's run is missed, as the chunk is no run; and a huge one
    huge_missed : (is_huge d && at_line == 0) ≡ false → MissesAt v line (record v { claims = told_descriptor })
    huge_missed e classes same (Small f i) has begins = counts (Small f i) (and_from (f == c) (not (is_run d)) (eq-eqb f c (small_chunk (classes f) f i has.1 begins).0) (ap not no_run))
    huge_missed e classes same (Big f) has begins =
        let z = big_chunk f begins in
        let other : is_huge d ≡ false = false_from_ne_true (is_huge d) (λ h. both_ways (is_huge d && at_line == 0) e (and_from (is_huge d) (at_line == 0) h (eq-eqb at_line 0 z.1))) in
        counts (Big f) (and_from (f == c) (not (is_huge d) && holds v.claims (header_in sh v.claims (Big f))) (eq-eqb f c z.0) (and_from (not (is_huge d)) (holds v.claims (header_in sh v.claims (Big f))) (ap not other) (ap (holds v.claims) begins ∙ can.held)))
    huge_missed e classes same Root has begins = absurd has

  -- ---- the chunk is a run
  module _ (run : is_run d ≡ true) where
    abbrev lines : ℕ
    lines = d / 256

    pub class_told : class told_descriptor c ≡ lines
    class_told = cond-true ((c == c) && is_run d) (d / 256) (class v.claims c) (and_from (c == c) (is_run d) (eq-eqb c c refl) run)

    no_lines : lines ≡ 0 → ToldNoRun (record v { claims = told_descriptor }) line
    no_lines zero_ = record { descriptor = d; told = (1, (let low : 1 < suc (suc (length v.claims)) = omega arith in low), refl); run = run; no_lines = zero_ }

    -- the lock of the block's line is held
    small_held : (i : ℕ) → at_line ≡ 1 + lines * i → (header_in sh told_descriptor (Small c i) ≡ line) × (holds told_descriptor (header_in sh told_descriptor (Small c i)) ≡ true)
    small_held i e = let begins : header_in sh told_descriptor (Small c i) ≡ line = ap (λ m. line_of_chunk sh c + (1 + m * i)) class_told ∙ (ap (λ n. line_of_chunk sh c + n) (sym e) ∙ sym line_is) in (begins, ap (holds v.claims) begins ∙ can.held)

    known_run : 1 ≤ lines → not (class told_descriptor c == 0) ≡ true
    known_run some = ap not (ne_eqb (class told_descriptor c) 0 (λ z. omega (arith, some, sym class_told ∙ z)))

    small_stands : shows_small lines b at_line ≡ true → StandsAt (record v { claims = told_bitmap }) line
    small_stands e =
        let i : ℕ = (at_line - 1) / lines in
        let p = and_parts (leb 1 lines && leb 1 at_line) ((at_line - 1) % lines == 0 && bit_at b i == 1) e in
        let q = and_parts (leb 1 lines) (leb 1 at_line) p.0 in
        let r = and_parts ((at_line - 1) % lines == 0) (bit_at b i == 1) p.1 in
        let some = leb-true 1 lines q.0 in
        let is : at_line ≡ 1 + lines * i = index at_line lines some (leb-true 1 at_line q.1) (eqb-true ((at_line - 1) % lines) 0 r.0) in
        let h = small_held i is in
        record {
          block = Small c i;
          inside = and_from (nat_lt c (chunks_of sh)) (nat_lt i 64) (lt-ltb c (chunks_of sh) inside) (lt-ltb i 64 (few at_line lines some (omega arith)));
          known = λ z. omega (arith, some, sym class_told ∙ z);
          begins = h.0;
          found = or_left (shown_by_bitmap sh told_descriptor c b (Small c i)) (found sh told_descriptor (Small c i))
              (and_from (c == c) ((bit_at b i == 1) && (not (class told_descriptor c == 0) && holds told_descriptor (header_in sh told_descriptor (Small c i)))) (eq-eqb c c refl)
              (and_from (bit_at b i == 1) (not (class told_descriptor c == 0) && holds told_descriptor (header_in sh told_descriptor (Small c i))) r.1
              (and_from (not (class told_descriptor c == 0)) (holds told_descriptor (header_in sh told_descriptor (Small c i))) (known_run some) h.1)));
        }
      where
        index : (at n : ℕ) → 1 ≤ n → 1 ≤ at → (at - 1) % n ≡ 0 → at ≡ 1 + n * ((at - 1) / n)
        index at n some high even = omega (arith, some, high, even)

        few : (at n : ℕ) → 1 ≤ n → at < 64 → (at - 1) / n < 64
        few at n some low = div_below (at - 1) n 64 (omega (arith, some)) (omega (arith, some, low))

    missed_small : 1 ≤ lines → shows_small lines b at_line ≡ false → (i : ℕ) → at_line ≡ 1 + lines * i → misses_in_bitmap sh told_descriptor c b (Small c i) ≡ true
    missed_small some e i is =
        let clear : (bit_at b i == 1) ≡ false = false_from_ne_true (bit_at b i == 1) (λ t. both_ways (shows_small lines b at_line) e (shown at_line lines some is t)) in
        and_from (c == c) (not (bit_at b i == 1) && (not (class told_descriptor c == 0) && holds told_descriptor (header_in sh told_descriptor (Small c i)))) (eq-eqb c c refl)
        (and_from (not (bit_at b i == 1)) (not (class told_descriptor c == 0) && holds told_descriptor (header_in sh told_descriptor (Small c i))) (ap not clear)
        (and_from (not (class told_descriptor c == 0)) (holds told_descriptor (header_in sh told_descriptor (Small c i))) (known_run some) (small_held i is).1))
      where
        shown : (at n : ℕ) → 1 ≤ n → at ≡ 1 + n * i → (bit_at b i == 1) ≡ true → shows_small n b at ≡ true
        shown at n some is t =
            let front : at - 1 ≡ i * n = (let e : at - 1 ≡ n * i = omega (arith, is) in e ∙ mul_comm n i) in
            let rest : (at - 1) % n ≡ 0 = ap (λ m. m % n) front ∙ mul-mod_left i n in
            let whole : (at - 1) / n ≡ i = ap (λ m. m / n) (front ∙ (let e : i * n ≡ i * n + 0 = omega arith in e)) ∙ div-mul-add i n 0 (omega (arith, some)) in
            and_from (leb 1 n && leb 1 at) ((at - 1) % n == 0 && bit_at b ((at - 1) / n) == 1)
            (and_from (leb 1 n) (leb 1 at) (le-leb 1 n some) (le-leb 1 at (omega (arith, is))))
            (and_from ((at - 1) % n == 0) (bit_at b ((at - 1) / n) == 1) (eq-eqb ((at - 1) % n) 0 rest) (ap (λ m. bit_at b m == 1) whole ∙ t))

    counts_more : (B : Block) → (misses_in_bitmap sh told_descriptor c b B || misses_in_descriptor sh v.claims c d B) ≡ true → IsMissedSince sh v.claims (record v { claims = told_bitmap }) B
    counts_more B m = missed_since told_bitmap B (at (misses_in_bitmap sh told_descriptor c b B) (misses_in_descriptor sh v.claims c d B) m) where
      at : (x y : Bool) → (x || y) ≡ true → times_missed sh B v.claims < cond x 1 0 + (cond y 1 0 + times_missed sh B v.claims)
      at true y e = let n : ℕ = cond y 1 0 in let more : times_missed sh B v.claims < 1 + (n + times_missed sh B v.claims) = omega arith in more
      at false true e = let more : times_missed sh B v.claims < 0 + (1 + times_missed sh B v.claims) = omega arith in more
      at false false e = absurd (both_ways false refl e)

    small_missed : 1 ≤ lines → shows_small lines b at_line ≡ false → MissesAt v line (record v { claims = told_bitmap })
    small_missed some e classes same (Small f i) has begins =
        let z = small_chunk (classes f) f i has.1 begins in
        let cl : classes f ≡ lines = ap classes z.0 ∙ (same c (λ n. omega (arith, some, sym class_told ∙ n)) ∙ class_told) in
        counts_more (Small f i) (or_left (misses_in_bitmap sh told_descriptor c b (Small f i)) (misses_in_descriptor sh v.claims c d (Small f i))
        (ap (λ g. misses_in_bitmap sh told_descriptor c b (Small g i)) z.0 ∙ missed_small some e i (z.1 ∙ ap (λ m. 1 + m * i) cl)))
    small_missed some e classes same (Big f) has begins =
        let z = big_chunk f begins in
        let other : is_huge d ≡ false = ne_eqb (d % 256) 2 (λ two. let one = eqb-true (d % 256) 1 run in omega (arith, one, two)) in
        counts_more (Big f) (or_right (misses_in_bitmap sh told_descriptor c b (Big f)) (misses_in_descriptor sh v.claims c d (Big f))
        (and_from (f == c) (not (is_huge d) && holds v.claims (header_in sh v.claims (Big f))) (eq-eqb f c z.0) (and_from (not (is_huge d)) (holds v.claims (header_in sh v.claims (Big f))) (ap not other) (ap (holds v.claims) begins ∙ can.held))))
    small_missed some e classes same Root has begins = absurd has

  -- ---- SO IT TELLS

  pub tells_no_run : is_run d ≡ false → LookTells v line (shows d b at_line) (record v { claims = told_descriptor })
  tells_no_run no_run = subst (λ s. LookTells v line s (record v { claims = told_descriptor })) (sym (cond-false (is_run d) (shows_small (d / 256) b at_line) (is_huge d && at_line == 0) no_run)) (at (is_huge d && at_line == 0) refl)
    where
      at : (s : Bool) → (is_huge d && at_line == 0) ≡ s → LookTells v line s (record v { claims = told_descriptor })
      at true e = huge_stands no_run e
      at false e = inl (huge_missed no_run e)

  pub tells_empty : is_run d ≡ true → d / 256 ≡ 0 → LookTells v line (shows d b at_line) (record v { claims = told_descriptor })
  tells_empty run zero_ = subst (λ s. LookTells v line s (record v { claims = told_descriptor }))
      (sym (cond-true (is_run d) (shows_small (d / 256) b at_line) (is_huge d && at_line == 0) run ∙ ap (λ n. shows_small n b at_line) zero_)) (inr (no_lines run zero_))

  pub tells_run : is_run d ≡ true → 1 ≤ d / 256 → LookTells v line (shows d b at_line) (record v { claims = told_bitmap })
  tells_run run some = subst (λ s. LookTells v line s (record v { claims = told_bitmap })) (sym (cond-true (is_run d) (shows_small (d / 256) b at_line) (is_huge d && at_line == 0) run)) (at (shows_small (d / 256) b at_line) refl)
    where
      at : (s : Bool) → shows_small (d / 256) b at_line ≡ s → LookTells v line s (record v { claims = told_bitmap })
      at true e = small_stands run e
      at false e = inl (small_missed run some e)

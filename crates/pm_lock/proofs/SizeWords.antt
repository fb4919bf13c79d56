-- THE SIZE WORD of an object that stands.
use Rattle.std.proofs.Common.{◌≡◌, ◌≢◌, ℕ, zero, suc, ◌+◌, ◌-◌, ◌*◌, ◌/◌, ◌<◌, ◌≤◌, nat_lt, true, false, ◌==◌, ◌&&◌, ◌||◌, ◌∷◌, None, Some, leb, ltb, refl, sym, ap, ◌∙◌, subst, arith, eq-eqb, ne_eqb}
use Rattle.std.proofs.lemmas.Bool.{and_from, and_parts, both_ways, cond-false, cond-true, le-leb, lt-ltb, ltb-true, or_left, or_right}
use Rattle.std.proofs.lemmas.Nat.{div-mul-add}
use Rattle.std.proofs.Math.Nat.{mul_comm}
use Rattle.pm_layout.specs.declared.shape.Shape.{Shape}
use Rattle.pm_layout.specs.Chunks.{chunks_of, page_of_chunk, word_of_chunk, word_of_root, words_of}
use Rattle.pm_view.specs.Claims.{Knows, class, first, found, header_in, holds, is_held, is_held_at, mine, pictured, span}
use Rattle.pm_view.specs.Founds.{knows}
use Rattle.pm_view.specs.Log.{Phase, Idle, Open, Drawn, Sealing, Applying, Clearing, Retiring, Voiding, is_early, place_at}
use Rattle.pm_view.specs.Parts.{ChunkPart, chunk_place, part_of, place_in, pool_part}
use Rattle.pm_view.specs.Places.{Block, Small, Big, Root, InRun, part}
use Rattle.pm_view.specs.Steps.Step.{Load}
use Rattle.pm_view.specs.View.{View, runs_one}
use Rattle.pm_view.specs.Views.{after, learned}
use Rattle.pm_world.specs.InWorld.{InWorld, IsSound}
use Rattle.pm_world.specs.Lanes.{is_occupancy}
use Rattle.pm_world.proofs.InWorlds.{seen_is_sound}
use Rattle.pm_world.proofs.StepMark.{some_class}
use Rattle.pm_world.proofs.WordPlaces.{chunk_part}
use Rattle.pm_lock.specs.Objects.{HasSound, IsKnownIn, StandsAt, chunk_of_line, has, is_chunk_line}
use Rattle.pm_lock.specs.Sizes.{CanSize, KnowsSizeAt, word_of_size}
use Rattle.pm_lock.proofs.Looks.{beyond_part, chunk_line}
use Rattle.pm_lock.proofs.Sights.{seen_fits}
use Rattle.pm_lock.proofs.Tells.{run_fits}

-- the block's chunk, and the word there: of a run's block or of a huge one
pub record SizeAt (v : View) (line : ℕ) : Type 0 where
  pub chunk : ℕ
  pub word : ℕ
  pub inside : chunk < chunks_of v.fixed.shape
  pub low : suc word < 512
  pub is : word_of_size line ≡ word_of_chunk v.fixed.shape chunk + suc word
  pub held : is_held_at v.fixed.shape v.claims (place_in (class v.claims) (ChunkPart chunk (suc word))) ≡ true

module _ (v : View) (line : ℕ) (sound : IsSound v) (whole : HasSound v) where
  abbrev sh : Shape
  sh = v.fixed.shape

  small_word : (n i : ℕ) → 1 ≤ n → part n (suc (8 * (1 + n * i))) 64 ≡ i
  small_word n i some =
      let u : suc (8 * (1 + n * i)) / 8 - 1 ≡ n * i = omega arith in
      cond-false (suc (8 * (1 + n * i)) == 0) 64 ((suc (8 * (1 + n * i)) / 8 - 1) / n) (ne_eqb (suc (8 * (1 + n * i))) 0 (λ z. omega (arith, z)))
      ∙ (ap (λ m. m / n) (u ∙ (mul_comm n i ∙ (let e : i * n ≡ i * n + 0 = omega arith in e))) ∙ div-mul-add i n 0 (omega (arith, some)))

  in_run : (m c w : ℕ) → m ≢ 0 → chunk_place m c w ≡ InRun c w
  in_run zero c w some = absurd (some refl)
  in_run (suc n) c w some = refl

  size_at : (B : Block) → is_occupancy sh B ≡ true → header_in sh v.claims B ≡ line → found sh v.claims B ≡ true → SizeAt v line
  size_at Root inside begins f = absurd (both_ways false refl inside)
  size_at (Big f) inside begins e =
      let some = whole.some f (or_right (mine sh v.claims (Big f)) (found sh v.claims (Big f)) e) in
      let z = sound.huge f f e (and_from (leb f f) (ltb f (f + span sh v.claims f)) (le-leb f f (omega arith)) (lt-ltb f (f + span sh v.claims f) (omega (arith, some)))) in
      record {
        chunk = f;
        word = 0;
        inside = ltb-true f (chunks_of sh) inside;
        low = omega arith;
        is = (let b = begins in omega (arith, b));
        held = ap (λ m. is_held_at sh v.claims (Some (chunk_place m f 1))) z.1 ∙ or_right (mine sh v.claims (Big (first sh v.claims f))) (found sh v.claims (Big (first sh v.claims f))) (ap (λ h. found sh v.claims (Big h)) z.0 ∙ e);
      }
  size_at (Small c i) inside begins e =
      let s = sound.small c i e in
      let fits = run_fits (class v.claims c) i s.1 in
      let some = some_class (class v.claims c) (let l = s.1 in omega (arith, l)) in
      let w : ℕ = suc (8 * (1 + class v.claims c * i)) in
      record {
        chunk = c;
        word = 8 * (1 + class v.claims c * i);
        inside = ltb-true c (chunks_of sh) (and_parts (nat_lt c (chunks_of sh)) (nat_lt i 64) inside).0;
        low = omega (arith, fits, some);
        is = (let b = begins in omega (arith, b));
        held = ap (λ p. is_held_at sh v.claims (Some p)) (in_run (class v.claims c) c w s.0)
            ∙ and_from (leb 8 w) (has v (Small c (part (class v.claims c) w 64))) (le-leb 8 w (omega arith))
            (ap (λ j. has v (Small c j)) (small_word (class v.claims c) i some) ∙ or_right (mine sh v.claims (Small c i)) (found sh v.claims (Small c i)) e);
      }

  -- ---- the look
  module _ (x : ℕ) (lane : v.fixed.lane < v.fixed.shape.lanes) (early : is_early v.log.phase ≡ true) (s : SizeAt v line) where
    abbrev w : ℕ
    w = word_of_size line

    pool_is : pool_part sh w ≡ ChunkPart s.chunk (suc s.word)
    pool_is = ap (pool_part sh) s.is ∙ chunk_part sh s.chunk (suc s.word) s.low s.inside

    part_is : part_of sh v.fixed.lane w ≡ ChunkPart s.chunk (suc s.word)
    part_is = beyond_part sh v.fixed.lane w lane (let e = s.is in omega (arith, e)) ∙ pool_is

    learns : (phase : Phase) → is_early phase ≡ true → learned phase (ChunkPart s.chunk (suc s.word)) w x v.claims ≡ Knows w x ∷ v.claims
    learns Idle e = refl
    learns Open e = refl
    learns (Drawn n) e = absurd (both_ways false refl e)
    learns (Sealing n) e = absurd (both_ways false refl e)
    learns (Applying todo) e = absurd (both_ways false refl e)
    learns Clearing e = absurd (both_ways false refl e)
    learns (Retiring n) e = absurd (both_ways false refl e)
    learns Voiding e = absurd (both_ways false refl e)

    pub after_is : after v (Load w x) ≡ record v { claims = Knows w x ∷ v.claims }
    after_is = ap (λ t. record v { claims = t }) (ap (λ p. learned v.log.phase p w x v.claims) part_is ∙ learns v.log.phase early)

    held_now : is_held sh (Knows w x ∷ v.claims) w ≡ true
    held_now = or_left (is_held_at sh v.claims (place_at sh (class v.claims) w)) ((w == word_of_root sh) && holds v.claims 0) (ap (λ p. is_held_at sh v.claims (place_in (class v.claims) p)) pool_is ∙ s.held)

    pub known_now : knows (record v { claims = Knows w x ∷ v.claims }) w ≡ Some x
    known_now = cond-true (runs_one v || is_held sh (Knows w x ∷ v.claims) w) (pictured sh (Knows w x ∷ v.claims) w) None (or_right (runs_one v) (is_held sh (Knows w x ∷ v.claims) w) held_now)
        ∙ cond-true (w == w) (Some x) (pictured sh v.claims w) (eq-eqb w w refl)

pub knows_size : (at : View → Type 0) (v : View) (sh : Shape) (line x : ℕ) → CanSize v sh line → InWorld v (word_of_size line) x → at (after v (Load (word_of_size line) x)) → KnowsSizeAt at v line x
knows_size at v sh line x can i m =
    let sound = (seen_is_sound v (word_of_size line) x i).0 in
    let whole = (seen_fits v (word_of_size line) x i).has_before in
    let s = size_at v line sound whole can.stands.block can.stands.inside can.stands.begins can.stands.found in
    let lane : v.fixed.lane < v.fixed.shape.lanes = subst (λ s. v.fixed.lane < s.lanes) (sym can.shape) can.lane in
    let e = after_is v line sound whole x lane can.early s in
    record {
      memory = m;
      same = e;
      known = ap (λ u. knows u (word_of_size line)) e ∙ known_now v line sound whole x lane can.early s;
      stands = subst (λ u. StandsAt u line) (sym e) (record { block = can.stands.block; inside = can.stands.inside; known = known can.stands.block can.stands.known; begins = begins can.stands.block ∙ can.stands.begins; found = can.stands.found });
    }
  where
    known : (B : Block) → IsKnownIn v B → IsKnownIn (record v { claims = Knows (word_of_size line) x ∷ v.claims }) B
    known (Small c j) k = k
    known (Big f) k = tt
    known Root k = tt

    begins : (B : Block) → header_in v.fixed.shape (Knows (word_of_size line) x ∷ v.claims) B ≡ header_in v.fixed.shape v.claims B
    begins (Small c j) = refl
    begins (Big f) = refl
    begins Root = refl

-- the word is of the pool
pub size_below : (sh : Shape) (line : ℕ) → is_chunk_line sh line ≡ true → word_of_size line < words_of sh
size_below sh line chunk = let p = chunk_line sh line chunk in low (chunk_of_line sh line) p.0 p.1
  where
    low : (c : ℕ) → c < chunks_of sh → page_of_chunk sh c ≡ line / 64 → word_of_size line < words_of sh
    low c l e = omega (arith, l, e)

pub size_inside : (v : View) (sh : Shape) (line : ℕ) → CanSize v sh line → word_of_size line < words_of v.fixed.shape
size_inside v sh line can = subst (λ s. word_of_size line < words_of s) (sym can.shape) (size_below sh line can.chunk)

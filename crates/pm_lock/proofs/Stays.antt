-- WHAT STAYS through a look at a descriptor, at a bitmap, and through looks one after another.
use Rattle.std.proofs.Common.{◌≡◌, ◌≢◌, ⊎_elim, ℕ, zero, suc, ◌+◌, ◌*◌, ◌/◌, ◌<◌, ◌≤◌, Bool, true, false, not, cond, ◌==◌, ◌&&◌, List, ◌∷◌, Some, refl, sym, ap, ◌∙◌, subst, arith, ne_eqb}
use Rattle.std.proofs.lemmas.Bool.{and_left, and_parts, and_right, both_ways, cond-false, eqb-true, false_from_ne_true, or_cases, or_left, or_right}
use Rattle.pm_layout.specs.declared.shape.Shape.{Shape}
use Rattle.pm_layout.specs.Chunks.{chunks_of, word_of_chunk, word_of_descriptor, word_of_root}
use Rattle.pm_view.specs.Claims.{Claim, Knows, SawBitmap, SawDescriptor, class, found, geometry, is_held_at, is_new, is_run, making, mine, pictured, shown_by_bitmap, shown_by_descriptor, span}
use Rattle.pm_view.specs.Log.{place_at}
use Rattle.pm_view.specs.Parts.{Part, DescriptorPart, ChunkPart, place_in, pool_part}
use Rattle.pm_view.specs.Places.{Block, Big}
use Rattle.pm_view.specs.View.{View}
use Rattle.pm_view.specs.Views.{value_in}
use Rattle.pm_world.specs.Causes.{misses_in_bitmap, misses_in_descriptor, times_missed}
use Rattle.pm_world.specs.InWorld.{IsSound}
use Rattle.pm_lock.specs.Objects.{HasLooked, HasSound, has}
use Rattle.pm_lock.proofs.Looks.{bitmap_pool, data_same, descriptor_pool, held_still, kept}

-- a word whose place is data is not one whose place is none
no_data : (sh : Shape) (t : List Claim) (w u : ℕ) (q : Part) → pool_part sh w ≡ q → is_held_at sh t (place_in (class t) q) ≡ false → is_held_at sh t (place_at sh (class t) u) ≡ true → w ≢ u
no_data sh t w u q at none held same = both_ways (is_held_at sh t (place_in (class t) q)) none (ap (λ p. is_held_at sh t (place_in (class t) p)) (sym at ∙ ap (pool_part sh) same) ∙ held)

module _ (v : View) (c x : ℕ) (lane : v.fixed.lane < v.fixed.shape.lanes) (inside : c < chunks_of v.fixed.shape) where
  abbrev sh : Shape
  sh = v.fixed.shape

  -- ---- a descriptor
  abbrev pub with_descriptor : View
  with_descriptor = record v { claims = Knows (word_of_descriptor v.fixed.shape c) x ∷ SawDescriptor c x ∷ v.claims }

  module _ (before : HasSound v) (now : HasSound with_descriptor) (unmaking : (d : ℕ) → making sh v.claims d ≡ false) (agrees : (n : ℕ) → class v.claims c ≡ suc n → x ≡ 1 + 256 * suc n) (sound : IsSound with_descriptor) where
    abbrev shown : Block → Bool
    shown = shown_by_descriptor sh v.claims c x

    found_still : (B : Block) → found sh v.claims B ≡ true → found sh with_descriptor.claims B ≡ true
    found_still B e = or_right (shown B) (found sh v.claims B) e

    old : (B : Block) → has v B ≡ true → (shown B && not (found sh v.claims B)) ≡ false
    old B e = ⊎_elim (λ (m : mine sh v.claims B ≡ true). and_left (shown B) (not (found sh v.claims B)) (false_from_ne_true (shown B) (λ s. both_ways (found sh with_descriptor.claims B) (now.apart B m) (or_left (shown B) (found sh v.claims B) s))))
        (λ (m : found sh v.claims B ≡ true). and_right (shown B) (not (found sh v.claims B)) (ap not m)) (or_cases (mine sh v.claims B) (found sh v.claims B) e)

    span_same : (f : ℕ) → has v (Big f) ≡ true → span sh with_descriptor.claims f ≡ span sh v.claims f
    span_same f e = cond-false (shown (Big f) && not (found sh v.claims (Big f))) (x / 256) (span sh v.claims f) (old (Big f) e)

    class_same : (d : ℕ) → class v.claims d ≢ 0 → class with_descriptor.claims d ≡ class v.claims d
    class_same d some = at ((c == d) && is_run x) refl where
      at : (b : Bool) → ((c == d) && is_run x) ≡ b → cond b (x / 256) (class v.claims d) ≡ class v.claims d
      at false e = refl
      at true e = known (class v.claims d) refl (eqb-true c d (and_parts (c == d) (is_run x) e).0) where
        known : (m : ℕ) → class v.claims d ≡ m → c ≡ d → x / 256 ≡ class v.claims d
        known zero q same = absurd (some q)
        known (suc n) q same = let is = agrees n (ap (class v.claims) same ∙ q) in (let e : x / 256 ≡ suc n = omega (arith, is) in e) ∙ sym q

    unmaking_now : (d : ℕ) → making sh with_descriptor.claims d ≡ false
    unmaking_now d = unmaking d

    data_still : (u : ℕ) → is_held_at sh v.claims (place_at sh (class v.claims) u) ≡ true → (place_at sh (class with_descriptor.claims) u ≡ place_at sh (class v.claims) u) × (is_held_at sh with_descriptor.claims (place_at sh (class with_descriptor.claims) u) ≡ true) × (value_in with_descriptor u ≡ value_in v u)
    data_still u held =
        let same = data_same v with_descriptor.claims before now unmaking_now (λ B. refl) found_still span_same class_same (pool_part sh u) held in
        let apart : (word_of_descriptor sh c == u) ≡ false = ne_eqb (word_of_descriptor sh c) u (no_data sh v.claims (word_of_descriptor sh c) u (DescriptorPart c) (descriptor_pool sh v.fixed.lane c lane inside) refl held) in (
          same.0,
          held_still v with_descriptor.claims before now unmaking_now (λ B. refl) found_still span_same class_same (pool_part sh u) held,
          cond-false (word_of_descriptor sh c == u) _ _ apart
              ∙ cond-false (is_new shown (found sh v.claims) (Rattle.pm_view.specs.Claims.block_in sh with_descriptor.claims (place_at sh (class with_descriptor.claims) u) 64)) _ _
              (ap (λ p. is_new shown (found sh v.claims) (Rattle.pm_view.specs.Claims.block_in sh with_descriptor.claims p 64)) same.0 ∙ (ap (is_new shown (found sh v.claims)) same.1
              ∙ kept v with_descriptor.claims before now unmaking_now (λ B. refl) found_still span_same class_same shown old (place_at sh (class v.claims) u) held)),
        )

    pub descriptor_stays : HasLooked v with_descriptor
    descriptor_stays = record {
      same = refl;
      locked = λ l. refl;
      reads = λ l. refl;
      making = λ d. refl;
      mine = λ B. refl;
      found = found_still;
      span = span_same;
      class = class_same;
      data_ = data_still;
      root = cond-false (word_of_descriptor sh c == word_of_root sh) _ _ (ne_eqb (word_of_descriptor sh c) (word_of_root sh) (λ e. omega arith));
      missed = λ B. let n : ℕ = cond (misses_in_descriptor sh v.claims c x B) 1 0 in let m : ℕ = times_missed sh B v.claims in let le : m ≤ n + m = omega arith in le;
      sound = λ s. sound;
    }

  -- ---- the bitmap of a run
  abbrev pub with_bitmap : View
  with_bitmap = record v { claims = Knows (word_of_chunk v.fixed.shape c) x ∷ SawBitmap c x ∷ v.claims }

  module _ (before : HasSound v) (now : HasSound with_bitmap) (unmaking : (d : ℕ) → making sh v.claims d ≡ false) (run : class v.claims c ≢ 0) (sound : IsSound with_bitmap) where
    abbrev shown_in : Block → Bool
    shown_in = shown_by_bitmap sh v.claims c x

    found_too : (B : Block) → found sh v.claims B ≡ true → found sh with_bitmap.claims B ≡ true
    found_too B e = or_right (shown_in B) (found sh v.claims B) e

    known_block : (B : Block) → has v B ≡ true → (shown_in B && not (found sh v.claims B)) ≡ false
    known_block B e = ⊎_elim (λ (m : mine sh v.claims B ≡ true). and_left (shown_in B) (not (found sh v.claims B)) (false_from_ne_true (shown_in B) (λ s. both_ways (found sh with_bitmap.claims B) (now.apart B m) (or_left (shown_in B) (found sh v.claims B) s))))
        (λ (m : found sh v.claims B ≡ true). and_right (shown_in B) (not (found sh v.claims B)) (ap not m)) (or_cases (mine sh v.claims B) (found sh v.claims B) e)

    no_bitmap : (m : ℕ) → class v.claims c ≡ m → is_held_at sh v.claims (place_in (class v.claims) (ChunkPart c 0)) ≡ false
    no_bitmap zero e = absurd (run e)
    no_bitmap (suc n) e = ap (λ m. is_held_at sh v.claims (Some (Rattle.pm_view.specs.Parts.chunk_place m c 0))) e

    data_too : (u : ℕ) → is_held_at sh v.claims (place_at sh (class v.claims) u) ≡ true → (place_at sh (class with_bitmap.claims) u ≡ place_at sh (class v.claims) u) × (is_held_at sh with_bitmap.claims (place_at sh (class with_bitmap.claims) u) ≡ true) × (value_in with_bitmap u ≡ value_in v u)
    data_too u held =
        let apart : (word_of_chunk sh c == u) ≡ false = ne_eqb (word_of_chunk sh c) u (no_data sh v.claims (word_of_chunk sh c) u (ChunkPart c 0) (bitmap_pool sh v.fixed.lane c lane inside) (no_bitmap (class v.claims c) refl) held) in (
          refl,
          held_still v with_bitmap.claims before now unmaking (λ B. refl) found_too (λ f e. refl) (λ d some. refl) (pool_part sh u) held,
          cond-false (word_of_chunk sh c == u) _ _ apart
              ∙ cond-false (is_new shown_in (found sh v.claims) (Rattle.pm_view.specs.Claims.block_in sh v.claims (place_at sh (class v.claims) u) 64)) _ _
              (kept v with_bitmap.claims before now unmaking (λ B. refl) found_too (λ f e. refl) (λ d some. refl) shown_in known_block (place_at sh (class v.claims) u) held),
        )

    pub bitmap_stays : HasLooked v with_bitmap
    bitmap_stays = record {
      same = refl;
      locked = λ l. refl;
      reads = λ l. refl;
      making = λ d. refl;
      mine = λ B. refl;
      found = found_too;
      span = λ f e. refl;
      class = λ d some. refl;
      data_ = data_too;
      root = cond-false (word_of_chunk sh c == word_of_root sh) _ _ (ne_eqb (word_of_chunk sh c) (word_of_root sh) (λ e. omega arith));
      missed = λ B. let n : ℕ = cond (misses_in_bitmap sh v.claims c x B) 1 0 in let m : ℕ = times_missed sh B v.claims in let le : m ≤ n + m = omega arith in le;
      sound = λ s. sound;
    }

-- ---- LOOKS ONE AFTER ANOTHER

pub stays_here : (v : View) → HasLooked v v
stays_here v = record {
  same = refl;
  locked = λ l. refl;
  reads = λ l. refl;
  making = λ d. refl;
  mine = λ B. refl;
  found = λ B e. e;
  span = λ f e. refl;
  class = λ d some. refl;
  data_ = λ u held. (refl, held, refl);
  root = refl;
  missed = λ B. omega arith;
  sound = λ s. s;
}

module _ (v : View) (t t' : List Claim) where
  abbrev one : View
  one = record v { claims = t }

  abbrev two : View
  two = record v { claims = t' }

  joined : HasLooked v one → HasLooked one two → HasLooked v two
  joined a b = record {
    same = refl;
    locked = λ l. b.locked l ∙ a.locked l;
    reads = λ l. b.reads l ∙ a.reads l;
    making = λ d. b.making d ∙ a.making d;
    mine = λ B. b.mine B ∙ a.mine B;
    found = λ B e. b.found B (a.found B e);
    span = λ f e. b.span f (has_still (Big f) e) ∙ a.span f e;
    class = λ d some. let s = a.class d some in b.class d (λ z. some (sym s ∙ z)) ∙ s;
    data_ = λ u held. let s = a.data_ u held in let r = b.data_ u s.1 in (r.0 ∙ s.0, r.1, r.2 ∙ s.2);
    root = b.root ∙ a.root;
    missed = λ B. let p = a.missed B in let q = b.missed B in omega (arith, p, q);
    sound = λ s. b.sound (a.sound s);
  }
    where
      has_still : (B : Block) → has v B ≡ true → has one B ≡ true
      has_still B e = ⊎_elim (λ (m : mine v.fixed.shape v.claims B ≡ true). or_left (mine v.fixed.shape t B) (found v.fixed.shape t B) (a.mine B ∙ m))
          (λ (m : found v.fixed.shape v.claims B ≡ true). or_right (mine v.fixed.shape t B) (found v.fixed.shape t B) (a.found B m))
          (or_cases (mine v.fixed.shape v.claims B) (found v.fixed.shape v.claims B) e)

pub stays_on : (v u w : View) → HasLooked v u → HasLooked u w → HasLooked v w
stays_on v u w a b = subst (HasLooked v) (sym last) (joined v u.claims w.claims (subst (HasLooked v) a.same a) (subst (HasLooked (record v { claims = u.claims })) last (subst (λ y. HasLooked y w) a.same b)))
  where
    last : w ≡ record v { claims = w.claims }
    last = b.same ∙ ap (λ (y : View). record y { claims = w.claims }) a.same

-- WHAT A LANE KNOWS OF A WORD IS SO: of data of its blocks and of the root word, and of any word where it runs alone.
use Rattle.std.specs.Option.{option_map}
use Rattle.std.specs.Int.{bit_at}
use Rattle.std.proofs.Common.{◌≡◌, ℕ, ◌<◌, ◌⊎◌, inl, inr, ⊎_elim, nat_le, nat_lt, Bool, true, false, cond, ◌==◌, ◌&&◌, ◌||◌, refl, sym, ap, ◌∙◌, subst, Option, None, Some}
use Rattle.std.proofs.lemmas.Bool.{eqb-true, both_ways, and_parts, and_from, or_cases, cond-true}
use Rattle.pm_layout.specs.declared.shape.Shape.{Shape}
use Rattle.pm_layout.specs.Chunks.{chunks_of, word_of_root}
use Rattle.pm_view.specs.Claims.{class, geometry, holds, mine, found, pictured, is_held_at, is_held}
use Rattle.pm_view.specs.Founds.{FindsKnown}
use Rattle.pm_view.specs.Log.{place_at}
use Rattle.pm_view.specs.Places.{Place, InRun, InHuge, Descr, RootWord, block_of, is_data, is_place, word_of}
use Rattle.pm_view.specs.View.{View, runs_one}
use Rattle.pm_world.specs.States.{State, Diff, read, Cells}
use Rattle.pm_world.specs.Sights.{is_pictured, sight_of}
use Rattle.pm_world.specs.Lanes.{Ghost, own, owns, sees, Flies, SightFits, GeoFits}
use Rattle.pm_world.specs.Memory.{Memory, PoolWord, bit, cells_of}
use Rattle.pm_world.specs.World.{Opening, Views, Past, ghost_of, settled_words, World}
use Rattle.pm_world.proofs.BlocksKnown.{block_so}
use Rattle.pm_world.proofs.EntryBits.{data_bit}
use Rattle.pm_world.proofs.Frame.{mine_own, own_has, found_has}
use Rattle.pm_world.proofs.PlacesAt.{is_at}
use Rattle.pm_world.proofs.StoreEntry.{same_bits}

-- ---- DATA of the lane's blocks
module _ (sh : Shape) (cells : Cells) (S : State) (flies : ℕ → Diff → Type 0) (g : Ghost) (geo : GeoFits sh S g) (k : ℕ) (v : View) (f : SightFits sh cells S flies g k (sight_of v)) where
  -- data of a block that it has, or found, no other lane may change
  pub data_seen : (p : Place) (b : ℕ) → is_data p ≡ true → (mine v.fixed.shape v.claims (block_of (geometry v.fixed.shape v.claims) p 64) || found v.fixed.shape v.claims (block_of (geometry v.fixed.shape v.claims) p 64)) ≡ true
      → (owns g.geo S (sight_of v).hold p b ≡ true) ⊎ (sees g.geo S (sight_of v).hold p b ≡ true)
  data_seen p b d o = let B = block_of (geometry v.fixed.shape v.claims) p 64 in ⊎_elim
      (λ (m : mine v.fixed.shape v.claims B ≡ true). let w = mine_own (sight_of v).hold B m in inl (owned p d (subst (λ C. own (sight_of v).hold C ≡ true) (block_so sh cells S flies g geo k v v.log.phase f p 64 (own_has (sight_of v).hold B w) ∙ sym (data_bit g.geo p b d)) w)))
      (λ (m : found v.fixed.shape v.claims B ≡ true). inr (seen p d (subst (λ C. (sight_of v).hold.found C ≡ true) (block_so sh cells S flies g geo k v v.log.phase f p 64 (found_has (sight_of v).hold B m) ∙ sym (data_bit g.geo p b d)) m)))
      (or_cases (mine v.fixed.shape v.claims B) (found v.fixed.shape v.claims B) o)
    where
      owned : (p : Place) → is_data p ≡ true → own (sight_of v).hold (block_of g.geo p b) ≡ true → owns g.geo S (sight_of v).hold p b ≡ true
      owned (InRun c u) d o = o
      owned (InHuge c u) d o = o
      owned (Descr c) d o = absurd (both_ways false refl d)
      owned RootWord d o = absurd (both_ways false refl d)

      seen : (p : Place) → is_data p ≡ true → (sight_of v).hold.found (block_of g.geo p b) ≡ true → sees g.geo S (sight_of v).hold p b ≡ true
      seen (InRun c u) d o = o
      seen (InHuge c u) d o = o
      seen (Descr c) d o = absurd (both_ways false refl d)
      seen RootWord d o = absurd (both_ways false refl d)

-- ---- THE WORD
module _ (o : Opening) (mem : Memory) (views : Views) (g : Past) (x : World o mem views g) (k : ℕ) (ink : k < o.lanes) where
  fit : SightFits o.shape (cells_of o.shape mem) (settled_words o g) (Flies (ghost_of g) k) (ghost_of g) k (sight_of (views k))
  fit = x.bits.each_lane k

  shape_is : (views k).fixed.shape ≡ o.shape
  shape_is = (x.each_lane k ink).shape

  -- the picture of what no other lane may change is so
  pub picture_so : (p : Place) (b : ℕ) (y : Bool) → (owns g.geo (settled_words o g) (sight_of (views k)).hold p b ≡ true) ⊎ (sees g.geo (settled_words o g) (sight_of (views k)).hold p b ≡ true)
      → (sight_of (views k)).picture p b ≡ Some y → read (cells_of o.shape mem).pool p b ≡ y
  picture_so p b y u e = ⊎_elim (λ (q : owns g.geo (settled_words o g) (sight_of (views k)).hold p b ≡ true). (fit.bits p b q).3 y e)
      (λ (q : sees g.geo (settled_words o g) (sight_of (views k)).hold p b ≡ true). fit.picture p b q y e) u

  in_picture : (p : Place) (b y : ℕ) → is_pictured p ≡ true → pictured (views k).fixed.shape (views k).claims (word_of (views k).fixed.shape p) ≡ Some y → (sight_of (views k)).picture p b ≡ Some (bit y b)
  in_picture p b y t e = cond-true (is_pictured p) (option_map (λ z. bit_at z b == 1) (pictured (views k).fixed.shape (views k).claims (word_of (views k).fixed.shape p))) None t ∙ ap (option_map (λ z. bit_at z b == 1)) e

  -- memory's bit of a pictured place of the pool
  pub in_pool : (p : Place) (b : ℕ) → is_pictured p ≡ true → is_place o.shape p ≡ true → read (cells_of o.shape mem).pool p b ≡ bit (mem (PoolWord (word_of o.shape p))) b
  in_pool (InRun c u) b t i = ap (λ a. a && bit (mem (PoolWord (word_of o.shape (InRun c u)))) b) i
  in_pool (InHuge c u) b t i = ap (λ a. a && bit (mem (PoolWord (word_of o.shape (InHuge c u)))) b) i
  in_pool (Descr c) b t i = absurd (both_ways false refl t)
  in_pool RootWord b t i = refl

  pub place_so : (p : Place) (w y : ℕ) → is_pictured p ≡ true → is_place o.shape p ≡ true → word_of (views k).fixed.shape p ≡ w
      → ((b : ℕ) → (owns g.geo (settled_words o g) (sight_of (views k)).hold p b ≡ true) ⊎ (sees g.geo (settled_words o g) (sight_of (views k)).hold p b ≡ true))
      → pictured (views k).fixed.shape (views k).claims w ≡ Some y → mem (PoolWord w) ≡ y
  place_so p w y t i at u e = let here = ap (λ s. word_of s p) (sym shape_is) ∙ at in
      same_bits (mem (PoolWord w)) y (λ b. ap (λ a. bit (mem (PoolWord a)) b) (sym here) ∙ (sym (in_pool p b t i) ∙ picture_so p b (bit y b) (u b) (in_picture p b y t (ap (pictured (views k).fixed.shape (views k).claims) at ∙ e))))

  data_pictured : (p : Place) → is_data p ≡ true → is_place o.shape p ≡ true → is_pictured p ≡ true
  data_pictured (InRun c u) d i = and_from (nat_le 8 u) (nat_lt u 512) d (and_parts (nat_lt c (chunks_of o.shape)) (nat_lt u 512) i).1
  data_pictured (InHuge c u) d i = (and_parts (nat_lt c (chunks_of o.shape)) (nat_lt u 512) i).1
  data_pictured (Descr c) d i = absurd (both_ways false refl d)
  data_pictured RootWord d i = absurd (both_ways false refl d)

  held_so : (w y : ℕ) (p : Option Place) → place_at (views k).fixed.shape (class (views k).claims) w ≡ p → is_held_at (views k).fixed.shape (views k).claims p ≡ true
      → pictured (views k).fixed.shape (views k).claims w ≡ Some y → mem (PoolWord w) ≡ y
  held_so w y None at h e = absurd (both_ways false refl h)
  held_so w y (Some p) at h e = let a = is_at (views k).fixed.shape (class (views k).claims) w p at in let B = block_of (geometry (views k).fixed.shape (views k).claims) p 64 in
      let z = and_parts (is_data p) (mine (views k).fixed.shape (views k).claims B || found (views k).fixed.shape (views k).claims B) h in let i = subst (λ s. is_place s p ≡ true) shape_is a.inside in
      place_so p w y (data_pictured p z.0 i) i a.word (λ b. data_seen o.shape (cells_of o.shape mem) (settled_words o g) (Flies (ghost_of g) k) (ghost_of g) x.bits.geo k (views k) fit p b z.0 z.1) e

  root_so : (w y : ℕ) → ((w == word_of_root (views k).fixed.shape) && holds (views k).claims 0) ≡ true → pictured (views k).fixed.shape (views k).claims w ≡ Some y → mem (PoolWord w) ≡ y
  root_so w y h e = let z = and_parts (w == word_of_root (views k).fixed.shape) (holds (views k).claims 0) h in
      place_so RootWord w y refl refl (sym (eqb-true w (word_of_root (views k).fixed.shape) z.0)) (λ b. inr z.1) e

  -- WHAT IT KNOWS IS SO
  pub known_so : (w : ℕ) → FindsKnown (views k) w (mem (PoolWord w))
  known_so w = by_right (runs_one (views k)) refl (is_held (views k).fixed.shape (views k).claims w) refl
    where
      if_some : (q : Option ℕ) → ((y : ℕ) → q ≡ Some y → mem (PoolWord w) ≡ y) → Rattle.std.specs.Prelude.IfSome q (λ y. mem (PoolWord w) ≡ y)
      if_some None h = tt
      if_some (Some z) h = h z refl

      by_right : (one : Bool) → runs_one (views k) ≡ one → (held : Bool) → is_held (views k).fixed.shape (views k).claims w ≡ held
          → Rattle.std.specs.Prelude.IfSome (cond (one || held) (pictured (views k).fixed.shape (views k).claims w) None) (λ y. mem (PoolWord w) ≡ y)
      by_right true a held b = if_some (pictured (views k).fixed.shape (views k).claims w) (λ y e. let f = x.each_lane k ink in (f.alone (sym f.lanes ∙ eqb-true (views k).fixed.lanes 1 a)).words w y e)
      by_right false a true b = if_some (pictured (views k).fixed.shape (views k).claims w) (λ y e. ⊎_elim
          (λ (h : is_held_at (views k).fixed.shape (views k).claims (place_at (views k).fixed.shape (class (views k).claims) w) ≡ true). held_so w y (place_at (views k).fixed.shape (class (views k).claims) w) refl h e)
          (λ (h : ((w == word_of_root (views k).fixed.shape) && holds (views k).claims 0) ≡ true). root_so w y h e)
          (or_cases (is_held_at (views k).fixed.shape (views k).claims (place_at (views k).fixed.shape (class (views k).claims) w)) ((w == word_of_root (views k).fixed.shape) && holds (views k).claims 0) b))
      by_right false a false b = tt

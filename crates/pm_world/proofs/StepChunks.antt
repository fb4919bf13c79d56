-- Bits of chunks of a zone, at the world: they are got, and the chunks are one claim of the lane's.
use Rattle.std.specs.Prelude.{◌∷◌, List, bit_and, bit_or, ◌↔◌}
use Rattle.std.specs.Int.{bit_at}
use Rattle.std.proofs.Common.{◌≡◌, ◌≢◌, ℕ, zero, suc, ◌+◌, ◌*◌, ◌/◌, ◌%◌, ◌<◌, ◌≤◌, ◌⊎◌, inl, inr, ⊎_elim, nat_le, nat_lt, Bool, true, false, cond, not, ◌==◌, ◌&&◌, ◌||◌, refl, sym, ap, ◌∙◌, subst, arith, eq-eqb, ne_eqb, Option, None, Some}
use Rattle.std.proofs.lemmas.Bool.{le-leb, cases_eq, cases_lt, cases_Bool, both_ways, eqb-true, ltb-true, lt-ltb, and_parts, and_from, and_left, or_parts, not_from_false, cond-true, cond-false, false_from_ne_true}
use Rattle.pm_layout.specs.Chunks.{chunks_of, word_of_chunk}
use Rattle.pm_view.specs.declared.occ.Occ.{Occ}
use Rattle.pm_view.specs.declared.occ.Occ.TheVariants.{Run, Zone}
use Rattle.pm_view.specs.Places.{Place, InRun, InHuge, Descr, RootWord, Block, Small, Big, Root, part, block_of, header, in_span, is_data, same, word_of}
use Rattle.pm_view.specs.Entries.{latest, redos, turn}
use Rattle.pm_view.specs.Parts.{chunk_place, place_in}
use Rattle.pm_view.specs.Claims.{Claim, Reserved, class, mine, span, last_first, within_span, first, geometry, block_in, passes, is_block_of, is_new_by, pictured, lowest, ones}
use Rattle.pm_view.specs.Founds.{Found}
use Rattle.pm_view.specs.Steps.Step.{Occupy}
use Rattle.pm_view.specs.Views.{after, occupancy_of}
use Rattle.pm_world.specs.States.{State, Diff, given, there, claimed, put1, Cells}
use Rattle.pm_world.specs.Sights.{Sight, is_pictured, is_made, is_recorded, picture, fresh, sight_of}
use Rattle.pm_world.specs.Lanes.{own, owns, Flies, is_occupancy, Bits}
use Rattle.pm_world.specs.Lawful.{IsLawful}
use Rattle.pm_world.specs.Moves.{Moves}
use Rattle.pm_world.specs.Course.{past_after}
use Rattle.pm_world.specs.Memory.{Memory, RunWord, ZoneWord, bit, occupancy_bit, cells_of}
use Rattle.pm_world.specs.World.{Opening, Views, Past, origin, ghost_of, settled_words, LaneFits, World}
use Rattle.pm_world.specs.Laws.{Turn, Keeps}
use Rattle.pm_world.proofs.Basics.{some_else, early_undecided}
use Rattle.pm_world.proofs.Cells.{cells_zone}
use Rattle.pm_world.proofs.Frame.{Around, fresh_given, own_has, small_cases, maker_owns, big_valid}
use Rattle.pm_world.proofs.Going.{Turned}
use Rattle.pm_world.proofs.Replays.{put1_here, put1_else}
use Rattle.pm_world.proofs.Worlds.{turned}
use Rattle.pm_world.proofs.Frame.{turn_stays}
use Rattle.pm_world.proofs.Occupies.{with_claim, ghost_with_claim, chunks_of_new, none_in, none_f, free_chunk, blocks_stay, owns_more, PicturedClaim, occupies_chunks}
use Rattle.pm_world.proofs.OccWorlds.{data_owned, occ_world}
use Rattle.pm_world.proofs.WordPlaces.{chunk_part, no_part, or_bit, clear_bit}
use Rattle.pm_world.proofs.RowBits.{lowest_row, ones_row, row_bit, zone_row}
use Rattle.pm_world.proofs.StepOccupies.{occupy_lost, occupy_run_keeps, less_known, none_known, same_known, none_some, occ_known, if_some}

module _ (o : Opening) (mem new : Memory) (views views' : Views) (g : Past) (x : World o mem views g) (k : ℕ) (ink : k < o.lanes) (zone bits : ℕ) (law : IsLawful (views k) (Occupy (Zone zone) bits true)) (moves : Moves k (Occupy (Zone zone) bits true) mem new)
    (t : Turn views views' k (after (views k) (Occupy (Zone zone) bits true))) where
  abbrev got : Block → Bool
  got B = is_block_of (views k).fixed.shape (Zone zone) bits B

  abbrev sights : ℕ → Sight
  sights j = sight_of (views j)

  abbrev cells : Cells
  cells = cells_of o.shape mem

  abbrev S : State
  S = settled_words o g

  abbrev f₀ : ℕ
  f₀ = 64 * zone + lowest 64 bits

  abbrev n : ℕ
  n = ones 64 bits

  abbrev pc : Diff
  pc = picture (views k).fixed.shape (Reserved (Zone zone) bits ∷ (views k).claims)

  fl : LaneFits o mem g k (views k)
  fl = x.each_lane k ink

  low : lowest 64 bits ≡ law.allowed.one.0
  low = ap (lowest 64) law.allowed.one.4 ∙ lowest_row 64 law.allowed.one.0 law.allowed.one.1 law.allowed.one.2 law.allowed.one.3

  count : ones 64 bits ≡ law.allowed.one.1
  count = ap (ones 64) law.allowed.one.4 ∙ ones_row 64 law.allowed.one.0 law.allowed.one.1 law.allowed.one.3

  some_ : 1 ≤ n
  some_ = subst (λ m. 1 ≤ m) (sym count) law.allowed.one.2

  room : lowest 64 bits + ones 64 bits ≤ 64
  room = let a = low in let b = count in let c = law.allowed.one.3 in omega arith

  got_is : (B : Block) → got B ≡ same B (Big f₀)
  got_is (Small d j) = refl
  got_is (Big d) = refl
  got_is Root = refl

  row : (j : ℕ) → bit bits j ≡ in_span (lowest 64 bits) (ones 64 bits) j
  row j = ap (λ w. bit w j) law.allowed.one.4 ∙ (row_bit law.allowed.one.0 law.allowed.one.1 j ∙ sym (ap (λ a. in_span a (ones 64 bits) j) low ∙ ap (λ m. in_span law.allowed.one.0 m j) count))

  -- which chunks the bits are of
  hit : (c : ℕ) → ((c / 64 == zone) && (bit_at bits (c % 64) == 1)) ≡ in_span f₀ n c
  hit c = ap (λ z. (c / 64 == zone) && z) (row (c % 64)) ∙ zone_row zone (lowest 64 bits) (ones 64 bits) c room

  found : (c : ℕ) → in_span f₀ n c ≡ true → (is_occupancy o.shape (Big c) ≡ true) × (cells.occ (Big c) ≡ false)
  found c s = let y = and_parts (c / 64 == zone) (bit_at bits (c % 64) == 1) (hit c ∙ s) in let z = eqb-true (c / 64) zone y.0 in let m : zone < o.shape.zones = subst (λ sh. zone < sh.zones) fl.shape law.allowed.there in
      (lt-ltb c (chunks_of o.shape) (omega arith), ap (λ q. bit (mem (ZoneWord q)) (c % 64)) z ∙ clear_bit (mem (ZoneWord zone)) bits (c % 64) moves.1 y.1)

  -- which chunk the lane takes to be the first of a chunk's block now
  abbrev last : ℕ → ℕ
  last d = last_first (views k).fixed.shape (views k).claims d

  abbrev first_now : ℕ → ℕ
  first_now d = first (views k).fixed.shape (Reserved (Zone zone) bits ∷ (views k).claims) d

  abbrev span_now : ℕ → ℕ
  span_now y = cond (got (Big y)) n (span (views k).fixed.shape (views k).claims y)

  span_f : span_now f₀ ≡ n
  span_f = cond-true (got (Big f₀)) n (span (views k).fixed.shape (views k).claims f₀) (eq-eqb f₀ f₀ refl)

  first_in : (d : ℕ) → in_span f₀ n d ≡ true → first_now d ≡ f₀
  first_in d s = ap (λ t. within_span (views k).fixed.shape (Reserved (Zone zone) bits ∷ (views k).claims) (cond t f₀ (last d)) d) (hit d ∙ s) ∙ cond-true (in_span f₀ (span_now f₀) d) f₀ d (ap (λ m. in_span f₀ m d) span_f ∙ s)

  by_last : (d : ℕ) → in_span f₀ n d ≡ false → first_now d ≡ cond (in_span (last d) (span_now (last d)) d) (last d) d
  by_last d s = ap (λ t. within_span (views k).fixed.shape (Reserved (Zone zone) bits ∷ (views k).claims) (cond t f₀ (last d)) d) (hit d ∙ s)

  -- where it took the first of the new chunks for that, it takes the chunk itself
  first_itself : (d : ℕ) → in_span f₀ n d ≡ false → last d ≡ f₀ → first_now d ≡ d
  first_itself d s q = by_last d s ∙ cond-false (in_span (last d) (span_now (last d)) d) (last d) d (subst (λ a. in_span a (span_now a) d ≡ false) (sym q) (ap (λ m. in_span f₀ m d) span_f ∙ s))

  first_cases : (d : ℕ) → (first (views k).fixed.shape (views k).claims d ≡ last d) ⊎ (first (views k).fixed.shape (views k).claims d ≡ d)
  first_cases d = let t = in_span (last d) (span (views k).fixed.shape (views k).claims (last d)) d in ⊎_elim (λ (e : t ≡ true). inl (cond-true t (last d) d e)) (λ (e : t ≡ false). inr (cond-false t (last d) d e)) (cases_Bool t)

  first_out : (d : ℕ) → in_span f₀ n d ≡ false → first (views k).fixed.shape (views k).claims d ≢ f₀ → first_now d ≡ first (views k).fixed.shape (views k).claims d
  first_out d s ne = ⊎_elim (λ (q : last d ≡ f₀). first_itself d s q ∙ ⊎_elim (λ (y : first (views k).fixed.shape (views k).claims d ≡ last d). absurd (ne (y ∙ q))) (λ (y : first (views k).fixed.shape (views k).claims d ≡ d). sym y) (first_cases d))
      (λ (q : last d ≢ f₀). by_last d s ∙ ap (λ m. cond (in_span (last d) m d) (last d) d) (cond-false (got (Big (last d))) n (span (views k).fixed.shape (views k).claims (last d)) (ne_eqb (last d) f₀ q))) (cases_eq (last d) f₀)

  in_first : in_span f₀ n f₀ ≡ true
  in_first = and_from (nat_le f₀ f₀) (nat_lt f₀ (f₀ + n)) (le-leb f₀ f₀ (omega arith)) (lt-ltb f₀ (f₀ + n) (let one = some_ in omega arith))

  first_stale : (d : ℕ) → in_span f₀ n d ≡ false → first (views k).fixed.shape (views k).claims d ≡ f₀ → first_now d ≡ d
  first_stale d s q = ⊎_elim (λ (y : first (views k).fixed.shape (views k).claims d ≡ last d). first_itself d s (sym y ∙ q))
      (λ (y : first (views k).fixed.shape (views k).claims d ≡ d). absurd (both_ways (in_span f₀ n d) s (subst (λ a. in_span f₀ n a ≡ true) (sym q ∙ y) in_first))) (first_cases d)

  abbrev Nothing : ℕ → Type 0
  Nothing c = ((j : ℕ) → own (sights j).hold (Big c) ≡ false) × (there S (Big c) ≡ false) × (g.holder (Big c) ≡ 0)

  nothing_in : (c : ℕ) → in_span f₀ n c ≡ true → Nothing (g.geo.first c)
  nothing_in c s = none_in o.shape o.lanes (origin o) cells sights (ghost_of g) x.bits k ink f₀ n some_ got got_is found first_now first_in first_out c s

  nothing_f : Nothing f₀
  nothing_f = none_f o.shape o.lanes (origin o) cells sights (ghost_of g) x.bits k ink f₀ n some_ got got_is found first_now first_in first_out

  free : (c : ℕ) → in_span f₀ n c ≡ true → g.runs c ≡ false
  free c s = (free_chunk o.shape o.lanes (origin o) cells sights (ghost_of g) x.bits k ink f₀ n some_ got got_is found first_now first_in first_out c s).0

  -- the lane knows none of the chunks as a run
  unknown : (c : ℕ) → in_span f₀ n c ≡ true → class (views k).claims c ≡ 0
  unknown c s = go (class (views k).claims c) refl
    where
      unmade : (j : ℕ) → (sights j).hold.making c ≡ false
      unmade j = false_from_ne_true ((sights j).hold.making c) (λ m. let y = maker_owns o.shape cells S (Flies (ghost_of g) j) (ghost_of g) x.bits.geo j (sights j) (x.bits.each_lane j) c m in both_ways (own (sights j).hold (Big c)) (subst (λ a. own (sights j).hold (Big a) ≡ false) y.1 ((nothing_in c s).0 j)) y.0)

      go : (m : ℕ) → class (views k).claims c ≡ m → class (views k).claims c ≡ 0
      go zero e = e
      go (suc m) e = let a = (x.bits.each_lane k).hold.seen c m e in let b : cells.descr c ≡ 0 = x.bits.descr c unmade ∙ cond-false (g.runs c) (g.geo.class c) 0 (free c s) in absurd (omega arith)

  -- ---- words
  abbrev is_newly : Option Block → Bool
  is_newly B = passes (λ C. got C && not (mine (views k).fixed.shape (views k).claims C)) B

  abbrev claims' : List Claim
  claims' = Reserved (Zone zone) bits ∷ (views k).claims

  newly_at : (d u : ℕ) → u < 512 → (d < chunks_of (views k).fixed.shape) → is_new_by (views k).fixed.shape (views k).claims (Zone zone) bits (word_of_chunk (views k).fixed.shape d + u) ≡ is_newly (Some (block_of (geometry (views k).fixed.shape (Reserved (Zone zone) bits ∷ (views k).claims)) (chunk_place (class (views k).claims d) d u) 64))
  newly_at d u l m = ap (λ p. is_newly (block_in (views k).fixed.shape (Reserved (Zone zone) bits ∷ (views k).claims) (place_in (class (views k).claims) p) 64)) (chunk_part (views k).fixed.shape d u l m)

  newly_out : (d u : ℕ) → u < 512 → chunks_of (views k).fixed.shape ≤ d → is_new_by (views k).fixed.shape (views k).claims (Zone zone) bits (word_of_chunk (views k).fixed.shape d + u) ≡ false
  newly_out d u l m = ap (λ p. is_newly (block_in (views k).fixed.shape (Reserved (Zone zone) bits ∷ (views k).claims) (place_in (class (views k).claims) p) 64)) (no_part (views k).fixed.shape d u l m)

  not_mine : mine (views k).fixed.shape (views k).claims (Big f₀) ≡ false
  not_mine = (or_parts ((sights k).hold.mine (Big f₀)) ((sights k).hold.here (Big f₀) || false) (nothing_f.0 k)).0

  -- the words of the chunks are new
  newly_here : (d u : ℕ) → u < 512 → in_span f₀ n d ≡ true → is_new_by (views k).fixed.shape (views k).claims (Zone zone) bits (word_of_chunk (views k).fixed.shape d + u) ≡ true
  newly_here d u l s = newly_at d u l inside ∙ (ap (λ m. is_newly (Some (block_of (geometry (views k).fixed.shape (Reserved (Zone zone) bits ∷ (views k).claims)) (chunk_place m d u) 64))) (unknown d s)
      ∙ (ap (λ a. got (Big a) && not (mine (views k).fixed.shape (views k).claims (Big a))) (first_in d s)
      ∙ and_from (got (Big f₀)) (not (mine (views k).fixed.shape (views k).claims (Big f₀))) (eq-eqb f₀ f₀ refl) (not_from_false (mine (views k).fixed.shape (views k).claims (Big f₀)) not_mine)))
    where
      inside : d < chunks_of (views k).fixed.shape
      inside = let y = ltb-true d (chunks_of o.shape) (found d s).0 in subst (λ sh. d < chunks_of sh) (sym fl.shape) y

  -- others that are within a run, or of a block that has another first chunk, are not
  newly_else : (d u : ℕ) → u < 512 → (class (views k).claims d ≢ 0) ⊎ ((in_span f₀ n d ≡ false) × (first (views k).fixed.shape (views k).claims d ≢ f₀)) → is_new_by (views k).fixed.shape (views k).claims (Zone zone) bits (word_of_chunk (views k).fixed.shape d + u) ≡ false
  newly_else d u l w = ⊎_elim (λ (m : d < chunks_of (views k).fixed.shape). newly_at d u l m ∙ go (class (views k).claims d) w) (λ (m : chunks_of (views k).fixed.shape ≤ d). newly_out d u l m) (cases_lt d (chunks_of (views k).fixed.shape))
    where
      go : (m : ℕ) → (m ≢ 0) ⊎ ((in_span f₀ n d ≡ false) × (first (views k).fixed.shape (views k).claims d ≢ f₀)) → is_newly (Some (block_of (geometry (views k).fixed.shape (Reserved (Zone zone) bits ∷ (views k).claims)) (chunk_place m d u) 64)) ≡ false
      go (suc m) w = refl
      go zero w = ⊎_elim (λ (ne : zero ≢ 0). absurd (ne refl))
          (λ (y : (in_span f₀ n d ≡ false) × (first (views k).fixed.shape (views k).claims d ≢ f₀)). ap (λ a. got (Big a) && not (mine (views k).fixed.shape (views k).claims (Big a))) (first_out d y.0 y.1)
          ∙ and_left (got (Big (first (views k).fixed.shape (views k).claims d))) (not (mine (views k).fixed.shape (views k).claims (Big (first (views k).fixed.shape (views k).claims d)))) (ne_eqb (first (views k).fixed.shape (views k).claims d) f₀ y.1)) w

  owned_old : (p : Place) (b : ℕ) → owns g.geo S (sights k).hold p b ≡ true → is_pictured p ≡ true → is_new_by (views k).fixed.shape (views k).claims (Zone zone) bits (word_of (views k).fixed.shape p) ≡ false
  owned_old (InRun d u) b a e = let z = and_parts (nat_le 8 u) (nat_lt u 512) e in let fk = x.bits.each_lane k in newly_else d u (ltb-true u 512 z.1) (inl (λ q.
      let w : class (views k).claims d ≡ g.geo.class d = fk.hold.class d (part (g.geo.class d) u b) (own_has (sights k).hold (Small d (part (g.geo.class d) u b)) a) in
      ⊎_elim (λ (r : g.runs d ≡ true). let y = (x.bits.geo.classes d r).0 in absurd (omega arith)) (λ (m : (sights k).hold.making d ≡ true). let y = (fk.hold.making d m).2 in absurd (omega arith)) (small_cases o.shape cells S (Flies (ghost_of g) k) (ghost_of g) x.bits.geo k (sights k) fk d (part (g.geo.class d) u b) a)))
  owned_old (InHuge d u) b a e = newly_else d u (ltb-true u 512 e) (inr (
    false_from_ne_true (in_span f₀ n d) (λ s. both_ways (own (sights k).hold (Big (g.geo.first d))) ((nothing_in d s).0 k) a),
    λ q. let y = (x.bits.each_lane k).hold.first d (own_has (sights k).hold (Big (g.geo.first d)) a) in both_ways (own (sights k).hold (Big f₀)) (nothing_f.0 k) (subst (λ c. own (sights k).hold (Big c) ≡ true) (sym y ∙ q) a),
  ))
  owned_old (Descr d) b a e = absurd (both_ways false refl e)
  owned_old RootWord b a e = refl

  claimed_new : (p : Place) (b : ℕ) → got (block_of (claimed g.geo f₀ n) p b) ≡ true → is_pictured p ≡ true → is_new_by (views k).fixed.shape (views k).claims (Zone zone) bits (word_of (views k).fixed.shape p) ≡ true
  claimed_new (InRun d u) b y e = absurd (both_ways false refl y)
  claimed_new (InHuge d u) b y e = newly_here d u (ltb-true u 512 e) (sym (chunks_of_new o.shape o.lanes (origin o) cells sights (ghost_of g) x.bits k ink f₀ n some_ got got_is found first_now first_in first_out d) ∙ y)
  claimed_new (Descr d) b y e = absurd (both_ways false refl e)
  claimed_new RootWord b y e = absurd (both_ways false refl y)

  abbrev newly : Place → Bool
  newly p = is_new_by (views k).fixed.shape (views k).claims (Zone zone) bits (word_of (views k).fixed.shape p)

  abbrev word_known : Place → Option ℕ
  word_known p = pictured (views k).fixed.shape (views k).claims (word_of (views k).fixed.shape p)

  pic : PicturedClaim o.shape o.lanes (origin o) cells sights (ghost_of g) x.bits k ink f₀ n some_ got got_is found first_now first_in first_out pc
  pic = record {
    less = λ p b y e. less_known (is_pictured p) (newly p) (word_known p) (λ m. bit_at m b == 1) y e;
    none_ = λ p b y. none_known (is_pictured p) (newly p) (word_known p) (λ m. bit_at m b == 1) (claimed_new p b y);
    else_ = λ p b a. same_known (is_pictured p) (newly p) (word_known p) (λ m. bit_at m b == 1) (owned_old p b a);
  }

  -- ---- what the call makes final stays
  abbrev made_of : Place → ℕ → Block → Bool
  made_of p b B = is_data p && (is_made (turn (latest (redos (views k).log.entries)) B) || is_recorded (views k).log.records p)

  same_place_fresh : (p : Place) (b : ℕ) (B B' : Block) → (B' ≡ B) ⊎ ((pc p b ≡ None) × (given (cond (made_of p b B) ((sights k).picture p b) None) ≡ false)) → (given (cond (made_of p b B) ((sights k).picture p b) None) ≡ true → pc p b ≡ (sights k).picture p b)
      → cond (made_of p b B') (pc p b) None ≡ cond (made_of p b B) ((sights k).picture p b) None
  same_place_fresh p b B B' w u = ⊎_elim (λ (e : B' ≡ B). ap (λ C. cond (made_of p b C) (pc p b) None) e ∙ Rattle.pm_world.proofs.StepOccupies.same_fresh (made_of p b B) (pc p b) ((sights k).picture p b) (pic.less p b) u)
      (λ (y : (pc p b ≡ None) × (given (cond (made_of p b B) ((sights k).picture p b) None) ≡ false)). never (made_of p b B') (pc p b) y.0 ∙ sym (ungiven (cond (made_of p b B) ((sights k).picture p b) None) y.1)) w
    where
      never : (t : Bool) (a : Option Bool) → a ≡ None → cond t a None ≡ None
      never true a e = e
      never false a e = refl

      ungiven : (a : Option Bool) → given a ≡ false → a ≡ None
      ungiven None e = refl
      ungiven (Some z) e = absurd (both_ways true e refl)

  owned_fresh : (p : Place) (b : ℕ) → given ((sights k).call.fresh p b) ≡ true → owns g.geo S (sights k).hold p b ≡ true
  owned_fresh p b y = (x.bits.each_lane k).reach p b (fresh_given (latest (sights k).call.entries p b) ((sights k).call.fresh p b) y)

  how_first : (d : ℕ) → ((in_span f₀ n d ≡ false) × (first (views k).fixed.shape (views k).claims d ≡ f₀)) ⊎ ((in_span f₀ n d ≡ true) ⊎ (first_now d ≡ first (views k).fixed.shape (views k).claims d))
  how_first d = ⊎_elim (λ (s : in_span f₀ n d ≡ true). inr (inl s)) (λ (s : in_span f₀ n d ≡ false). ⊎_elim (λ (q : first (views k).fixed.shape (views k).claims d ≡ f₀). inl (s, q))
      (λ (ne : first (views k).fixed.shape (views k).claims d ≢ f₀). inr (inr (first_out d s ne))) (cases_eq (first (views k).fixed.shape (views k).claims d) f₀)) (cases_Bool (in_span f₀ n d))

  -- a block that is not the lane's the call does not make
  not_made : (c : ℕ) → own (sights k).hold (Big c) ≡ false → is_made (turn (latest (redos (views k).log.entries)) (Big c)) ≡ false
  not_made c e = ap is_made (turn_stays (sights k).phase ((sights k).hold.locked (header o.shape g.geo (Big c))) ((sights k).hold.mine (Big c)) ((sights k).hold.here (Big c)) false (turn (latest (redos (views k).log.entries)) (Big c)) ((x.bits.each_lane k).turns (Big c)) e)

  -- a chunk whose block the lane took to begin where the new chunks do
  stale : (d u b : ℕ) → in_span f₀ n d ≡ false → first (views k).fixed.shape (views k).claims d ≡ f₀ → fresh (views k).fixed.shape (Reserved (Zone zone) bits ∷ (views k).claims) (views k).log (InHuge d u) b ≡ (sights k).call.fresh (InHuge d u) b
  stale d u b s q = let rec = is_recorded (views k).log.records (InHuge d u) in
      let before : is_made (turn (latest (redos (views k).log.entries)) (Big (first (views k).fixed.shape (views k).claims d))) ≡ false = not_made (first (views k).fixed.shape (views k).claims d) (subst (λ a. own (sights k).hold (Big a) ≡ false) (sym q) (nothing_f.0 k)) in
      let now : is_made (turn (latest (redos (views k).log.entries)) (Big (first_now d))) ≡ false = not_made (first_now d) (subst (λ a. own (sights k).hold (Big a) ≡ false) (sym (first_stale d s q)) not_own) in
      let old : (sights k).call.fresh (InHuge d u) b ≡ cond (is_data (InHuge d u) && (false || rec)) ((sights k).picture (InHuge d u) b) None = ap (λ t. cond (is_data (InHuge d u) && (t || rec)) ((sights k).picture (InHuge d u) b) None) before in
      ap (λ t. cond (is_data (InHuge d u) && (t || rec)) (pc (InHuge d u) b) None) now
      ∙ (Rattle.pm_world.proofs.StepOccupies.same_fresh (is_data (InHuge d u) && (false || rec)) (pc (InHuge d u) b) ((sights k).picture (InHuge d u) b) (pic.less (InHuge d u) b) (λ y. pic.else_ (InHuge d u) b (owned_fresh (InHuge d u) b (ap given old ∙ y))) ∙ sym old)
    where
      not_own : own (sights k).hold (Big d) ≡ false
      not_own = false_from_ne_true (own (sights k).hold (Big d)) (λ y. let fk = x.bits.each_lane k in
          let itself : g.geo.first d ≡ d = big_valid o.shape cells S (Flies (ghost_of g) k) (ghost_of g) x.bits.geo k (sights k) fk d y in
          let taken = fk.hold.first d (own_has (sights k).hold (Big (g.geo.first d)) (subst (λ a. own (sights k).hold (Big a) ≡ true) (sym itself) y)) in
          both_ways (in_span f₀ n d) s (subst (λ a. in_span f₀ n a ≡ true) (sym q ∙ (taken ∙ itself)) in_first))

  fresh_same : (p : Place) (b : ℕ) → fresh (views k).fixed.shape (Reserved (Zone zone) bits ∷ (views k).claims) (views k).log p b ≡ (sights k).call.fresh p b
  fresh_same (InRun d u) b = same_place_fresh (InRun d u) b (block_of (geometry (views k).fixed.shape (views k).claims) (InRun d u) b) (block_of (geometry (views k).fixed.shape (Reserved (Zone zone) bits ∷ (views k).claims)) (InRun d u) b) (inl refl) (λ y. pic.else_ (InRun d u) b (owned_fresh (InRun d u) b y))
  fresh_same (InHuge d u) b = ⊎_elim (λ (q : (in_span f₀ n d ≡ false) × (first (views k).fixed.shape (views k).claims d ≡ f₀)). stale d u b q.0 q.1) (λ (w : (in_span f₀ n d ≡ true) ⊎ (first_now d ≡ first (views k).fixed.shape (views k).claims d)). same_place_fresh (InHuge d u) b (block_of (geometry (views k).fixed.shape (views k).claims) (InHuge d u) b) (block_of (geometry (views k).fixed.shape (Reserved (Zone zone) bits ∷ (views k).claims)) (InHuge d u) b)
      (⊎_elim (λ (s : in_span f₀ n d ≡ true). inr (
        none_known (is_pictured (InHuge d u)) (newly (InHuge d u)) (word_known (InHuge d u)) (λ m. bit_at m b == 1) (λ e. newly_here d u (ltb-true u 512 e) s),
        false_from_ne_true (given ((sights k).call.fresh (InHuge d u) b)) (λ y. both_ways (own (sights k).hold (Big (g.geo.first d))) ((nothing_in d s).0 k) (owned_fresh (InHuge d u) b y)),
      ))
      (λ (s : first_now d ≡ first (views k).fixed.shape (views k).claims d). inl (ap (λ a. Big a) s)) w) (λ y. pic.else_ (InHuge d u) b (owned_fresh (InHuge d u) b y))) (how_first d)
  fresh_same (Descr d) b = refl
  fresh_same RootWord b = refl

  sight_is : sight_of (after (views k) (Occupy (Zone zone) bits true)) ≡ record (sight_of (views k)) { hold = with_claim (sight_of (views k)).hold got n first_now; picture = pc }
  sight_is = λ r. record (sight_of (views k)) {
    hold = with_claim (sight_of (views k)).hold got n first_now;
    picture = pc;
    call = record { entries = redos (views k).log.entries; fresh = λ p b. fresh_same p b r };
  }

  abbrev y : ℕ
  y = bit_or (mem (ZoneWord zone)) bits

  abbrev occ' : Block → Bool
  occ' = occupancy_bit o.shape (λ p. mem (RunWord p)) (put1 (λ z. mem (ZoneWord z)) zone y)

  occ_big : (c : ℕ) → is_occupancy o.shape (Big c) ≡ true → occ' (Big c) ≡ (in_span f₀ n c || cells.occ (Big c))
  occ_big c in_ = ⊎_elim
      (λ (e : c / 64 ≡ zone). ap (λ z. bit (put1 (λ z. mem (ZoneWord z)) zone y z) (c % 64)) e ∙ (ap (λ w. bit w (c % 64)) (put1_here (λ z. mem (ZoneWord z)) zone y) ∙ (or_bit (mem (ZoneWord zone)) bits (c % 64)
      ∙ (ap (λ z. bit bits (c % 64) || bit (mem (ZoneWord z)) (c % 64)) (sym e) ∙ ap (λ b. b || bit (mem (ZoneWord (c / 64))) (c % 64)) (sym (ap (λ b. b && bit bits (c % 64)) (eq-eqb (c / 64) zone e)) ∙ hit c)))))
      (λ (ne : c / 64 ≢ zone). ap (λ w. bit w (c % 64)) (put1_else (λ z. mem (ZoneWord z)) zone y (c / 64) ne) ∙ ap (λ b. b || bit (mem (ZoneWord (c / 64))) (c % 64)) (sym (and_left (c / 64 == zone) (bit_at bits (c % 64) == 1) (ne_eqb (c / 64) zone ne)) ∙ hit c)) (cases_eq (c / 64) zone)

  pub occupy_chunks : World o new views' (past_after g (views k) (Occupy (Zone zone) bits true)) × Found (views k) (Occupy (Zone zone) bits true)
  occupy_chunks = let un = early_undecided (views k).log.phase law.allowed.early in
      let step = occupies_chunks o.shape o.lanes (origin o) cells sights (ghost_of g) x.bits k ink f₀ n some_ got got_is found first_now first_in first_out (let r = room in omega arith) un.0 un.1 occ' (λ c i in_. refl) occ_big pc pic (λ j. sight_of (views' j))
      (subst (λ z. Turned sights (λ j. sight_of (views' j)) k z) sight_is (turned views views' k (after (views k) (Occupy (Zone zone) bits true)) t)) in
      let to : cells_of o.shape new ≡ record cells { occ = occ' } = cells_zone o.shape mem new zone y moves.0 in
      let lane : suc k ≡ suc (views k).fixed.lane = ap suc (sym fl.lane) in (
        occ_world o mem new views views' g x k ink (Zone zone) y moves.0 (Reserved (Zone zone) bits ∷ (views k).claims) (after (views k) (Occupy (Zone zone) bits true)).occupancy (Occupy (Zone zone) bits true ∷ (views k).seen) (claimed g.geo f₀ n)
            (λ B. cond (is_block_of (views k).fixed.shape (Zone zone) bits B) (suc (views k).fixed.lane) (g.holder B)) record {
              early = law.allowed.early;
              olds = λ p b q a. subst (λ z. owns (claimed g.geo f₀ n) S z.hold p b ≡ true) (sym sight_is) (owns_more o.shape o.lanes (origin o) cells sights (ghost_of g) x.bits k ink f₀ n some_ got got_is found first_now first_in first_out p b a);
              recorded = λ p b q y z. (subst (λ B. (sights k).hold.here B ≡ true) (sym (blocks_stay o.shape o.lanes (origin o) cells sights (ghost_of g) x.bits k ink f₀ n some_ got got_is found first_now first_in first_out p b (data_owned (sights k).hold g.geo S p b q y))) y, ap given (pic.else_ p b (data_owned (sights k).hold g.geo S p b q y)) ∙ z);
              words = λ w z e. some_else (is_new_by (views k).fixed.shape (views k).claims (Zone zone) bits w) (pictured (views k).fixed.shape (views k).claims w) z e;
              occs = λ one other z e. occ_known (Zone zone) (λ m. bit_or m bits) mem new refl moves.0 (views k).occupancy (fl.alone one).occupancy other z e;
              draws = refl;
            }
            (subst (λ m. Around k (sights k).hold (λ j. (sights j).hold) cells (cells_of o.shape new) S S (ghost_of g) (record (ghost_of g) { geo = claimed g.geo f₀ n; holder = λ B. cond (got B) m (g.holder B) })) lane (subst (λ z. Around k (sights k).hold (λ j. (sights j).hold) cells z S S (ghost_of g) (ghost_with_claim k (ghost_of g) got f₀ n)) (sym to) step.0))
            (subst (λ m. Bits o.shape o.lanes (origin o) (cells_of o.shape new) (λ j. sight_of (views' j)) (record (ghost_of g) { geo = claimed g.geo f₀ n; holder = λ B. cond (got B) m (g.holder B) })) lane (subst (λ z. Bits o.shape o.lanes (origin o) z (λ j. sight_of (views' j)) (ghost_with_claim k (ghost_of g) got f₀ n)) (sym to) step.1)) t,
        λ one. if_some (occupancy_of (views k).occupancy (Zone zone)) (λ z. (true ≡ true) ↔ (bit_and z bits ≡ 0)) (λ z e. let w = ((fl.alone (sym fl.lanes ∙ eqb-true (views k).fixed.lanes 1 one)).occupancy (Zone zone) z e).0 in (λ q. ap (λ m. bit_and m bits) (sym w) ∙ moves.1, λ q. refl)),
      )

pub occupy_chunks_keeps : (zone bits : ℕ) → Keeps (Occupy (Zone zone) bits true)
occupy_chunks_keeps zone bits o mem new views views' g k x ink law moves t = occupy_chunks o mem new views views' g x k ink zone bits law moves t

-- occupation, whichever word it is of and whether it is won
pub occupy_keeps : (at : Occ) (bits : ℕ) (won : Bool) → Keeps (Occupy at bits won)
occupy_keeps at bits false = occupy_lost at bits
occupy_keeps (Run place) bits true = occupy_run_keeps place bits
occupy_keeps (Zone zone) bits true = occupy_chunks_keeps zone bits

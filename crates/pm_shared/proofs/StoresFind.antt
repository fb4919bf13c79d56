-- A STORE FINDS WHAT THE LANE'S VIEW HAS OF THE WORD: of the generation and the seal by the lane's log, of a descriptor that is to be a run's by what no lane
-- made of it, of data and of the root's offset by the lane's right to the word.
use Rattle.std.proofs.Common.{◌≡◌, ◌≢◌, ℕ, suc, ◌<◌, ◌⊎◌, inl, inr, ⊎_elim, nat_le, nat_lt, Bool, true, false, cond, ◌==◌, ◌&&◌, ◌||◌, List, [], ◌∷◌, length, Option, None, Some, ap, refl, sym, subst, ◌∙◌, arith}
use Rattle.std.proofs.lemmas.Bool.{both_ways, and_parts, and_from, or_left, ltb-true, false_from_ne_true, cond-true}
use Rattle.std.specs.Option.{option_map}
use Rattle.std.specs.Int.{bit_at}
use Rattle.std.specs.Prelude.{IfSome}
use Rattle.pm_layout.specs.Areas.{word_of_generation, word_of_seal}
use Rattle.pm_layout.specs.Chunks.{chunks_of, word_of_descriptor}
use Rattle.pm_record.specs.declared.redo.Op.TheVariants as op
use Rattle.pm_view.specs.Claims.{class, pictured, is_held_at}
use Rattle.pm_view.specs.Entries.{Entry, Redo, delta, given_bit, latest, redos, with_redo, first_of_two}
use Rattle.pm_view.specs.Founds.{knows}
use Rattle.pm_view.specs.Log.{Phase, Idle, Open, Drawn, Applying, place_at}
use Rattle.pm_view.specs.Parts.{Part, GenerationPart, SealPart, EntryPart, SlotPart, RootPart, DescriptorPart, ChunkPart, OtherPart}
use Rattle.pm_view.specs.Places.{Place, InRun, InHuge, Descr, RootWord, block_of, is_data, is_place, word_of}
use Rattle.pm_view.specs.Steps.Step.{Store}
use Rattle.pm_view.specs.View.{runs_one}
use Rattle.pm_view.specs.Views.{part_in, value_in, was_of}
use Rattle.pm_world.proofs.Applies.{own_here}
use Rattle.pm_world.proofs.EntryBits.{data_bit}
use Rattle.pm_world.proofs.Entering.{logged_recorded}
use Rattle.pm_world.proofs.Going.{at_phase}
use Rattle.pm_world.proofs.Known.{picture_so, in_pool, known_so}
use Rattle.pm_world.proofs.PlacesAt.{is_at}
use Rattle.pm_world.proofs.StepChange.{tag, generation_word, seal_word}
use Rattle.pm_world.proofs.StepEntries.{next_place}
use Rattle.pm_world.proofs.StepMark.{descriptor_at}
use Rattle.pm_world.proofs.StoreArea.{area_apart}
use Rattle.pm_world.proofs.StoreEntry.{same_bits}
use Rattle.pm_world.specs.Lanes.{Flies, owns, sees, own, SightFits}
use Rattle.pm_world.specs.Lawful.{IsLawful, StoreFits, MayFill, MayWrite, MayMark}
use Rattle.pm_world.specs.Memory.{Memory, PoolWord, bit, cells_of}
use Rattle.pm_world.specs.Sights.{is_pictured, sight_of}
use Rattle.pm_world.specs.States.{State, given}
use Rattle.pm_world.specs.World.{Opening, Views, Past, World, origin, ghost_of, settled_words}
use Rattle.pm_shared.proofs.MarkedChunks.{tells_nothing}
use Rattle.pm_shared.proofs.Sound.{part_here, described, log_in, stands, of_place}
use Rattle.pm_shared.specs.Plays.{FindsWas}
use Rattle.pm_shared.specs.Rule.{Sound, is_settable}

pub if_known : (q : Option ℕ) (r : ℕ) → ((y : ℕ) → q ≡ Some y → r ≡ y) → IfSome q (λ y. r ≡ y)
if_known None r h = tt
if_known (Some z) r h = h z refl

some_same : (a c : ℕ) → Some a ≡ Some c → a ≡ c
some_same a c e = ap value e
  where
    value : Option ℕ → ℕ
    value None = 0
    value (Some y) = y

abbrev part_kind : Part → ℕ
part_kind GenerationPart = 1
part_kind SealPart = 2
part_kind EntryPart = 3
part_kind SlotPart = 4
part_kind RootPart = 5
part_kind (DescriptorPart c) = 6
part_kind (ChunkPart c i) = 7
part_kind OtherPart = 8

module _ (o : Opening) (mem : Memory) (views : Views) (g : Past) (x : World o mem views g) (sound : Sound o mem views) (k : ℕ) (ink : k < o.lanes) where
  in_shape : k < o.shape.lanes
  in_shape = let most = x.most_lanes in omega arith

  abbrev S : State
  S = settled_words o g

  -- ---- A WORD WHOSE BITS NO OTHER LANE CHANGES is as the lane has it
  abbrev Reached : Place → Type 0
  Reached p = (b : ℕ) → (owns g.geo (settled_words o g) (sight_of (views k)).hold p b ≡ true) ⊎ (sees g.geo (settled_words o g) (sight_of (views k)).hold p b ≡ true)

  in_picture : (p : Place) (b y : ℕ) → is_pictured p ≡ true → value_in (views k) (word_of (views k).fixed.shape p) ≡ Some y → (sight_of (views k)).picture p b ≡ Some (bit y b)
  in_picture p b y seen e = cond-true (is_pictured p) (option_map (λ z. bit_at z b == 1) (value_in (views k) (word_of (views k).fixed.shape p))) None seen ∙ ap (option_map (λ z. bit_at z b == 1)) e

  word_so : (p : Place) (w y : ℕ) → is_pictured p ≡ true → is_place o.shape p ≡ true → word_of o.shape p ≡ w → Reached p → value_in (views k) w ≡ Some y → mem (PoolWord w) ≡ y
  word_so p w y seen inside at reach e = let there : word_of (views k).fixed.shape p ≡ w = ap (λ s. word_of s p) (x.each_lane k ink).shape ∙ at in
      same_bits (mem (PoolWord w)) y (λ b. ap (λ a. bit (mem (PoolWord a)) b) (sym at) ∙ (sym (in_pool o mem views g x k ink p b seen inside)
      ∙ picture_so o mem views g x k ink p b (bit y b) (reach b) (in_picture p b y seen (ap (pictured (views k).fixed.shape (views k).claims) there ∙ e))))

  data_pictured : (p : Place) → is_data p ≡ true → is_place o.shape p ≡ true → is_pictured p ≡ true
  data_pictured (InRun c u) d i = and_from (nat_le 8 u) (nat_lt u 512) d (and_parts (nat_lt c (chunks_of o.shape)) (nat_lt u 512) i).1
  data_pictured (InHuge c u) d i = (and_parts (nat_lt c (chunks_of o.shape)) (nat_lt u 512) i).1
  data_pictured (Descr c) d i = absurd (both_ways false refl d)
  data_pictured RootWord d i = absurd (both_ways false refl d)

  -- data of a block of its own
  filled : (w y : ℕ) → MayFill (views k) w → value_in (views k) w ≡ Some y → mem (PoolWord w) ≡ y
  filled w y a e = subst (λ q. IfSome q (λ z. mem (PoolWord w) ≡ z)) (known_is ∙ e) (known_so o mem views g x k ink w)
    where
      held_at : is_held_at (views k).fixed.shape (views k).claims (place_at (views k).fixed.shape (class (views k).claims) w) ≡ true
      held_at = subst (λ q. is_held_at (views k).fixed.shape (views k).claims q ≡ true) (sym a.at) (and_from (is_data a.place) _ a.plain (or_left _ _ a.own))

      either_way : (one h more : Bool) (q : Option ℕ) → h ≡ true → cond (one || (h || more)) q None ≡ q
      either_way true h more q e = refl
      either_way false true more q e = refl
      either_way false false more q e = absurd (both_ways false refl e)

      known_is : knows (views k) w ≡ value_in (views k) w
      known_is = either_way (runs_one (views k)) (is_held_at (views k).fixed.shape (views k).claims (place_at (views k).fixed.shape (class (views k).claims) w)) _ (value_in (views k) w) held_at

  -- a recorded word
  recorded : (ph : Phase) (w y : ℕ) → (views k).log.phase ≡ Open → MayWrite (views k) w → value_in (views k) w ≡ Some y → mem (PoolWord w) ≡ y
  recorded ph w y open_ a e = let i = is_at (views k).fixed.shape (class (views k).claims) w a.place a.at in
      let inside = subst (λ s. is_place s a.place ≡ true) (x.each_lane k ink).shape i.inside in let at = sym (ap (λ s. word_of s a.place) (x.each_lane k ink).shape) ∙ i.word in
      let r = (x.each_lane k ink).recorded (ap Rattle.pm_world.specs.Lanes.is_decided open_) a.place (logged_recorded (views k).fixed.shape (views k).fixed.lane (views k).changes 0 (views k).log.records a.place a.logged) in
      word_so a.place w y (data_pictured a.place r.0 inside) inside at (λ b. inr (seen a.place b r.0 ((x.bits.each_lane k).hold.here (block_of g.geo a.place b) (r.1 b).0).1)) e
    where
      seen : (p : Place) (b : ℕ) → is_data p ≡ true → (sight_of (views k)).hold.found (block_of g.geo p b) ≡ true → sees g.geo (settled_words o g) (sight_of (views k)).hold p b ≡ true
      seen (InRun c u) b d f = f
      seen (InHuge c u) b d f = f
      seen (Descr c) b d f = absurd (both_ways false refl d)
      seen RootWord b d f = absurd (both_ways false refl d)

  -- ---- A WORD THAT AN ENTRY SETS
  module _ (e : Entry) (todo : List Entry) (ph : (views k).log.phase ≡ Applying (e ∷ todo)) (w : ℕ) (word : e.word ≡ w) (set : e.op ≡ op.Set) where
    module _ (p : Place) (place : e.place ≡ Some p) where
      abbrev redo : Redo
      redo = record { place = p; op = e.op; value = e.value }

      left_is : (q : Place) (b : ℕ) → latest (redos (e ∷ todo)) q b ≡ first_of_two (latest (redos todo) q b) (delta (record { place = p; op = e.op; value = e.value }) q b)
      left_is q b = ap (λ z. latest (with_redo z e (redos todo)) q b) place

      owned_low : owns g.geo (settled_words o g) (sight_of (views k)).hold p 0 ≡ true
      owned_low = own_here o.shape (cells_of o.shape mem) (cells_of o.shape mem) (settled_words o g) (Flies (ghost_of g) k) (ghost_of g) x.bits.geo k (sight_of (views k)) (record { place = p; op = e.op; value = e.value }) (e ∷ todo) todo
          (at_phase o.shape o.lanes (origin o) (cells_of o.shape mem) (λ j. sight_of (views j)) (ghost_of g) x.bits k ink (Applying (e ∷ todo)) ph) left_is 0 (ap (λ z. given (given_bit z e.value 0)) set)

    -- all bits of a word of data, or of the root's, are one block's
    whole : (p : Place) → is_pictured p ≡ true → owns g.geo (settled_words o g) (sight_of (views k)).hold p 0 ≡ true → Reached p
    whole (InRun c u) seen own_ b = inl (subst (λ B. own (sight_of (views k)).hold B ≡ true) (data_bit g.geo (InRun c u) 0 (data_of seen) ∙ sym (data_bit g.geo (InRun c u) b (data_of seen))) own_)
      where
        data_of : (nat_le 8 u && nat_lt u 512) ≡ true → nat_le 8 u ≡ true
        data_of t = (and_parts (nat_le 8 u) (nat_lt u 512) t).0
    whole (InHuge c u) seen own_ b = inl own_
    whole (Descr c) seen own_ b = absurd (both_ways false refl seen)
    whole RootWord seen own_ b = inl own_

    -- the place is none of a descriptor where the word is none
    pictured_here : (p : Place) → is_place o.shape p ≡ true → word_of o.shape p ≡ w → is_settable p ≡ true → part_kind (part_in (views k) w) ≢ 6 → is_pictured p ≡ true
    pictured_here (InRun c u) i at t ne = and_from (nat_le 8 u) (nat_lt u 512) t (and_parts (nat_lt c (chunks_of o.shape)) (nat_lt u 512) i).1
    pictured_here (InHuge c u) i at t ne = (and_parts (nat_lt c (chunks_of o.shape)) (nat_lt u 512) i).1
    pictured_here (Descr c) i at t ne = absurd (ne (ap part_kind (described o mem views g x k ink w c (ltb-true c (chunks_of o.shape) i) (sym at)).1))
    pictured_here RootWord i at t ne = refl

    set_so : (y : ℕ) → tag (part_in (views k) w) ≡ 0 → part_kind (part_in (views k) w) ≢ 6 → value_in (views k) w ≡ Some y → mem (PoolWord w) ≡ y
    set_so y kind ne known = let p = next_place o mem views g x k ink w e todo ph word (ap tag (part_here o mem views g x k ink w (part_in (views k) w) refl) ∙ kind) in
        let s = of_place o mem views g x k ink e todo ph p.0 p.1 in let at = s.1 ∙ word in
        let seen = pictured_here p.0 s.0 at (sound.sets k (length (log_in o mem views g x k ink (Applying (e ∷ todo)) ph).phase.1.done) e p.0 (stands o mem views g x k ink e todo ph) set p.1) ne in
        word_so p.0 w y seen s.0 at (whole p.0 seen (owned_low p.0 p.1)) known

    -- ---- the entry of the generation: the next one is not stored yet
    not_bumped : part_in (views k) w ≡ GenerationPart → (views k).log.bumped ≡ false
    not_bumped part = let l = log_in o mem views g x k ink (Applying (e ∷ todo)) ph in
        false_from_ne_true (views k).log.bumped (λ bumped. l.phase.1.ends bumped 0 e (omega arith) (no_place e.place refl))
      where
        no_place : (q : Option Place) → e.place ≡ q → e.place ≡ None
        no_place None z = z
        no_place (Some p) z = let s = of_place o mem views g x k ink e todo ph p z in let at = generation_word o.shape k w (part_here o mem views g x k ink w GenerationPart part) in
            absurd (area_apart o.shape k 0 w in_shape (omega arith) (at ∙ omega arith) p (sym word ∙ sym s.1))

  -- ---- THE GENERATION AND THE SEAL
  generation_so : (w y : ℕ) → part_in (views k) w ≡ GenerationPart → (views k).log.bumped ≡ false → y ≡ (views k).log.generation → mem (PoolWord w) ≡ y
  generation_so w y part not_ e = ap (λ u. mem (PoolWord u)) (generation_word o.shape k w (part_here o mem views g x k ink w GenerationPart part)) ∙ ((x.each_lane k ink).log.stored ∙ (ap (λ b. cond b (suc (views k).log.generation) (views k).log.generation) not_ ∙ sym e))

  own_generation : (w : ℕ) → part_in (views k) w ≡ GenerationPart → w ≡ word_of_generation (views k).fixed.shape (views k).fixed.lane
  own_generation w part = generation_word (views k).fixed.shape (views k).fixed.lane w part

  own_seal : (w : ℕ) → part_in (views k) w ≡ SealPart → w ≡ word_of_seal (views k).fixed.shape (views k).fixed.lane
  own_seal w part = seal_word (views k).fixed.shape (views k).fixed.lane w part

  known_is : (w u y z : ℕ) → w ≡ u → value_in (views k) u ≡ Some z → value_in (views k) w ≡ Some y → y ≡ z
  known_is w u y z at known e = some_same y z (sym e ∙ (ap (value_in (views k)) at ∙ known))

  seal_so : (w y count : ℕ) → part_in (views k) w ≡ SealPart → (cells_of o.shape mem).seal k ≡ count → y ≡ count → mem (PoolWord w) ≡ y
  seal_so w y count part is e = ap (λ u. mem (PoolWord u)) (seal_word o.shape k w (part_here o mem views g x k ink w SealPart part)) ∙ (is ∙ sym e)

  -- ---- THE DESCRIPTOR of a chunk that is to be a run: it tells of nothing
  descriptor_so : (w n d y : ℕ) → (views k).log.phase ≡ Open → part_in (views k) w ≡ DescriptorPart d → MayMark (views k) d n → value_in (views k) w ≡ Some y → mem (PoolWord w) ≡ y
  descriptor_so w n d y open_ part a e = let here = descriptor_at o.shape k w d (part_here o mem views g x k ink w (DescriptorPart d) part) in
      ap (λ u. mem (PoolWord u)) here.0 ∙ (tells_nothing o mem views g x sound k ink d here.1 open_ a.own a.unknown ∙ sym (some_same y 0 (sym e ∙ value_there w d part a.clear)))
    where
      value_there : (w d : ℕ) → part_in (views k) w ≡ DescriptorPart d → value_in (views k) (word_of_descriptor (views k).fixed.shape d) ≡ Some 0 → value_in (views k) w ≡ Some 0
      value_there w d part clear = ap (value_in (views k)) (descriptor_at (views k).fixed.shape (views k).fixed.lane w d part).0 ∙ clear

  -- ---- BY PHASE AND PART
  by_part : (w n : ℕ) (ph : Phase) (q : Part) → (views k).log.phase ≡ ph → part_in (views k) w ≡ q → StoreFits (views k) w n ph q → IfSome (was_of ph q (value_in (views k) w)) (λ y. mem (PoolWord w) ≡ y)
  by_part w n Idle (ChunkPart c i) e part a = if_known (value_in (views k) w) (mem (PoolWord w)) (λ y known. filled w y a known)
  by_part w n Open SlotPart e part a = tt
  by_part w n Open EntryPart e part a = tt
  by_part w n Open (ChunkPart c i) e part a = if_known (value_in (views k) w) (mem (PoolWord w)) (λ y known. ⊎_elim (λ (m : MayWrite (views k) w). recorded Open w y e m known) (λ (m : MayFill (views k) w). filled w y m known) a)
  by_part w n Open (DescriptorPart d) e part a = if_known (value_in (views k) w) (mem (PoolWord w)) (λ y known. descriptor_so w n d y e part a known)
  by_part w n Open GenerationPart e part a = if_known (value_in (views k) w) (mem (PoolWord w)) (λ y known. generation_so w y part (log_in o mem views g x k ink Open e).bump (known_is w (word_of_generation (views k).fixed.shape (views k).fixed.lane) y (views k).log.generation (own_generation w part) a.ends.known known))
  by_part w n (Drawn m) GenerationPart e part a = if_known (value_in (views k) w) (mem (PoolWord w)) (λ y known. generation_so w y part (log_in o mem views g x k ink (Drawn m) e).bump (known_is w (word_of_generation (views k).fixed.shape (views k).fixed.lane) y (views k).log.generation (own_generation w part) a.known known))
  by_part w n (Drawn m) SealPart e part a = if_known (value_in (views k) w) (mem (PoolWord w)) (λ y known. seal_so w y 0 part (log_in o mem views g x k ink (Drawn m) e).sealed (known_is w (word_of_seal (views k).fixed.shape (views k).fixed.lane) y 0 (own_seal w part) a.known known))
  by_part w n (Applying []) GenerationPart e part a = absurd a.0
  by_part w n (Applying (d ∷ todo)) GenerationPart e part a = if_known (value_in (views k) w) (mem (PoolWord w)) (λ y known. generation_so w y part (not_bumped d todo e w a.0.0 a.0.1 part) (some_same y (views k).log.generation (sym known ∙ a.1)))
  by_part w n (Applying todo) SealPart e part a = if_known (value_in (views k) w) (mem (PoolWord w)) (λ y known. seal_so w y (length (views k).log.entries) part (log_in o mem views g x k ink (Applying todo) e).sealed (known_is w (word_of_seal (views k).fixed.shape (views k).fixed.lane) y (length (views k).log.entries) (own_seal w part) a.known known))
  by_part w n (Applying []) RootPart e part a = absurd a
  by_part w n (Applying (d ∷ todo)) RootPart e part a = if_known (value_in (views k) w) (mem (PoolWord w)) (λ y known. set_so d todo e w a.0 a.1 y (ap tag part) (λ z. let q = sym (ap part_kind part) ∙ z in absurd (omega arith)) known)
  by_part w n (Applying todo) (DescriptorPart d) e part a = tt
  by_part w n (Applying []) (ChunkPart c i) e part a = absurd a
  by_part w n (Applying (d ∷ todo)) (ChunkPart c i) e part a = if_known (value_in (views k) w) (mem (PoolWord w)) (λ y known. set_so d todo e w a.0 a.1 y (ap tag part) (λ z. let q = sym (ap part_kind part) ∙ z in absurd (omega arith)) known)
  by_part w n ph q e part a = absurd a

  pub finds_was : (w n : ℕ) → IsLawful (views k) (Store w n) → FindsWas (views k) w (mem (PoolWord w))
  finds_was w n law = by_part w n (views k).log.phase (part_in (views k) w) refl refl law.allowed.fits

-- A WORD OF AN ENTRY is stored: an entry is whole with its second word.
use Rattle.std.specs.Prelude.{List, [], ◌∷◌, ◌++◌, All, length, take, slice_index, slice_get, IfSome}
use Rattle.std.proofs.Common.{◌≡◌, ◌≢◌, ℕ, zero, suc, ◌+◌, ◌*◌, ◌/◌, ◌%◌, ◌^◌, ◌<◌, ◌≤◌, ◌⊎◌, inl, inr, ⊎_elim, true, false, ◌||◌, refl, sym, ap, ◌∙◌, subst, arith, Option, None, Some}
use Rattle.std.proofs.lemmas.Bool.{cases_eq, cases_Bool, and_parts, or_left, or_right}
use Rattle.std.proofs.lemmas.List.{length-append}
use Rattle.std.proofs.lemmas.Option.{slice_get_within}
use Rattle.std.proofs.Math.Nat.{pow-suc, div-one, mod-eq_of_lt}
use Rattle.pm_layout.specs.Areas.{word_of_entry, word_of_generation, line_of_slot, redo_entries}
use Rattle.pm_record.specs.Redo.{op_code, op_of}
use Rattle.pm_record.specs.declared.redo.Op.{Op}
use Rattle.pm_record.specs.declared.redo.Op.TheVariants.{Set, Or, And}
use Rattle.pm_record.specs.Undo.{undo_of}
use Rattle.pm_view.specs.Changes.{Undrained}
use Rattle.pm_view.specs.Claims.{class}
use Rattle.pm_view.specs.Counts.{MayCount}
use Rattle.pm_view.specs.Entries.{Entry, entry_head}
use Rattle.pm_view.specs.Log.{Open, Log, place_at, entered, with_pair}
use Rattle.pm_view.specs.Parts.{Part, GenerationPart, SealPart, EntryPart, SlotPart, RootPart, DescriptorPart, ChunkPart, OtherPart, part_of}
use Rattle.pm_view.specs.Places.{Place, RootWord, Root, is_place, word_of}
use Rattle.pm_view.specs.Views.{value_in}
use Rattle.pm_world.specs.States.{val, root_line, put1}
use Rattle.pm_world.specs.Sights.{call_of, sight_of}
use Rattle.pm_world.specs.Lanes.{all_held, rights, owns, SightFits, Flies}
use Rattle.pm_world.specs.Lawful.{HoldsRoot, AppendsToPair, EntersWord, MayStore}
use Rattle.pm_world.specs.Logs.{LogFits, IsEntryAt, AreaChange, EntryOf}
use Rattle.pm_world.specs.Laws.{KeepsAt, Turn}
use Rattle.pm_world.specs.Memory.{Memory, PoolWord, Becomes, bit, cells_of}
use Rattle.pm_world.specs.World.{Opening, Views, Past, origin, ghost_of, settled_words, LaneFits, World}
use Rattle.pm_world.proofs.Basics.{val_alike}
use Rattle.pm_world.proofs.AfterStore.{after_store, keeps_at}
use Rattle.pm_world.proofs.EntryBits.{enters, enters_none}
use Rattle.pm_world.proofs.Entering.{added, Enters, entered_fits}
use Rattle.pm_world.proofs.Frame.{root_apart}
use Rattle.pm_world.proofs.Going.{at_phase}
use Rattle.pm_world.proofs.PlacesAt.{is_at}
use Rattle.pm_world.proofs.Replays.{put1_here, put1_else}
use Rattle.pm_world.proofs.StepDraw.{all_cons}
use Rattle.pm_world.proofs.StoreArea.{undrained_by, logged_else, sight_from, Logged, area_world}
use Rattle.pm_world.proofs.Values.{val_from, val_word}

-- ---- numbers that have the same bits
below_pow : (n : ℕ) → n < 2 ^ n
below_pow zero = omega arith
below_pow (suc n) = let l = below_pow n in let e = pow-suc 2 n in omega arith

val_small : (x n : ℕ) → x ≤ n → val (bit x) 0 n ≡ x
val_small x n l = val_from x 0 n ∙ (ap (λ z. z % 2 ^ n) (div-one x) ∙ mod-eq_of_lt (let b = below_pow n in omega arith))

pub same_bits : (x y : ℕ) → ((b : ℕ) → bit x b ≡ bit y b) → x ≡ y
same_bits x y h = sym (val_small x (x + y) (omega arith)) ∙ (val_alike (bit x) (bit y) 0 (x + y) (λ b l. h b) ∙ val_small y (x + y) (omega arith))

-- THE ROOT WORD is the lane's that holds its guards, by the value that the lane knows
module _ (o : Opening) (mem : Memory) (views : Views) (g : Past) (x : World o mem views g) (k : ℕ) (ink : k < o.lanes) where
  pub root_owned : (y : ℕ) → value_in (views k) (word_of (views k).fixed.shape RootWord) ≡ Some y → HoldsRoot (views k) y → (b : ℕ) → owns g.geo (settled_words o g) (sight_of (views k)).hold RootWord b ≡ true
  root_owned y e held b = ⊎_elim (λ (t : owns g.geo (settled_words o g) (sight_of (views k)).hold RootWord 0 ≡ true). t) (λ (t : owns g.geo (settled_words o g) (sight_of (views k)).hold RootWord 0 ≡ false).
      let same : (c : ℕ) → settled_words o g RootWord c ≡ bit (mem (PoolWord 64)) c = λ c. sym (x.bits.unowned RootWord c (λ j. ⊎_elim (λ (q : j ≡ k). subst (λ i. owns g.geo (settled_words o g) (sight_of (views i)).hold RootWord c ≡ false) (sym q) t)
      (λ (ne : j ≢ k). root_apart o.shape (cells_of o.shape mem) (settled_words o g) (Flies (ghost_of g) k) (Flies (ghost_of g) j) (ghost_of g) x.bits.geo x.bits.alone k j (sight_of (views k)) (sight_of (views j)) (x.bits.each_lane k) (x.bits.each_lane j) (λ q. ne (sym q)) sees c) (cases_eq j k)) refl) in
      let told : val (settled_words o g RootWord) 0 64 ≡ y = val_alike (settled_words o g RootWord) (bit (mem (PoolWord 64))) 0 64 (λ c l. same c) ∙ (val_word (mem (PoolWord 64)) (x.small 64) ∙ same_bits (mem (PoolWord 64)) y (λ c. shown c)) in
      subst (λ n. rights (sight_of (views k)).hold Root (0 ∷ root_line n) ≡ true) (sym told) (or_right ((sight_of (views k)).hold.mine Root || false) (all_held (sight_of (views k)).hold.locked (0 ∷ root_line y)) held)) (cases_Bool (owns g.geo (settled_words o g) (sight_of (views k)).hold RootWord 0))
    where
      sees : ((sight_of (views k)).hold.locked 0 || (sight_of (views k)).hold.reads 0) ≡ true
      sees = or_left ((sight_of (views k)).hold.locked 0) ((sight_of (views k)).hold.reads 0) (and_parts ((sight_of (views k)).hold.locked 0) (all_held (sight_of (views k)).hold.locked (root_line y)) held).0

      shown : (c : ℕ) → bit (mem (PoolWord 64)) c ≡ bit y c
      shown c = (x.bits.each_lane k).picture RootWord c sees (bit y c) (ap (Rattle.std.specs.Option.option_map (λ z. bit z c)) e)

-- ---- lists and pairs
pub get_more : {A : Type 0} → (xs : List A) (y : A) (i : ℕ) (z : A) → slice_get (xs ++ y ∷ []) i ≡ Some z → (slice_get xs i ≡ Some z) ⊎ ((i ≡ length xs) × (y ≡ z))
get_more [] y zero z e = inr (refl, some_same y z e)
  where
    value : {A : Type 0} → A → Option A → A
    value d None = d
    value d (Some y) = y

    some_same : {A : Type 0} → (a c : A) → Some a ≡ Some c → a ≡ c
    some_same a c e = ap (value a) e
get_more [] y (suc i) z e = inl e
get_more (x ∷ xs) y zero z e = inl e
get_more (x ∷ xs) y (suc i) z e = ⊎_elim (λ (t : slice_get xs i ≡ Some z). inl t) (λ (t : (i ≡ length xs) × (y ≡ z)). inr (ap suc t.0, t.1)) (get_more xs y i z e)

code_op : (how : Op) (word : ℕ) → op_of ((8 * word + op_code how) % 8) ≡ Some how
code_op Set word = ap op_of (let q : (8 * word + 0) % 8 ≡ 0 = omega arith in q)
code_op Or word = ap op_of (let q : (8 * word + 1) % 8 ≡ 1 = omega arith in q)
code_op And word = ap op_of (let q : (8 * word + 2) % 8 ≡ 2 = omega arith in q)

code_word : (how : Op) (word : ℕ) → (8 * word + op_code how) / 8 ≡ word
code_word Set word = omega arith
code_word Or word = omega arith
code_word And word = omega arith

pub open_change : (c1 c2 g1 g2 : ℕ) (p : Part) (u : Undrained) → AreaChange Open c1 g1 p u → AreaChange Open c2 g2 p u
open_change c1 c2 g1 g2 GenerationPart u a = a
open_change c1 c2 g1 g2 SealPart u a = a
open_change c1 c2 g1 g2 EntryPart u a = a
open_change c1 c2 g1 g2 SlotPart u a = a
open_change c1 c2 g1 g2 RootPart u a = a
open_change c1 c2 g1 g2 (DescriptorPart d) u a = a
open_change c1 c2 g1 g2 (ChunkPart d i) u a = a
open_change c1 c2 g1 g2 OtherPart u a = a

module _ (w n : ℕ) (o : Opening) (mem new : Memory) (views views' : Views) (g : Past) (k : ℕ) (x : World o mem views g) (ink : k < o.lanes) (m : MayStore (views k) w n) (due : MayCount (views k)) (a : AppendsToPair (views k) w n)
    (open_ : (views k).log.phase ≡ Open) (in_entry : part_of (views k).fixed.shape (views k).fixed.lane w ≡ EntryPart) (b : Becomes (PoolWord w) n mem new) where
  f : LaneFits o mem g k (views k)
  f = x.each_lane k ink

  abbrev es : List Entry
  es = (views k).log.entries

  abbrev OldLog : Log → Type 0
  OldLog log = LogFits o.shape k ((cells_of o.shape mem).generation k) ((cells_of o.shape mem).seal k) ((cells_of o.shape mem).entry k) ((cells_of o.shape mem).slot k) (settled_words o g) (owns g.geo (settled_words o g) (sight_of (views k)).hold) (sight_of (views k)).picture log (views k).changes

  l : OldLog (record (views k).log { phase = Open })
  l = subst (λ z. OldLog (record (views k).log { phase = z })) open_ (x.each_lane k ink).log

  lane_at : w ≡ word_of_entry o.shape k (length (views k).log.entries) + length (views k).log.pair
  lane_at = let e = (x.each_lane k ink).lane in let q = a.at in omega arith

  short : length (views k).log.pair < 2
  short = l.phase.1

  free : length (views k).log.entries < 64
  free = a.free

  abbrev i : ℕ
  i = 8 + 2 * length (views k).log.entries + length (views k).log.pair

  at : w ≡ word_of_generation o.shape k + (8 + 2 * length (views k).log.entries + length (views k).log.pair)
  at = let q = lane_at in omega arith

  in_area : 8 + 2 * length (views k).log.entries + length (views k).log.pair < 1024
  in_area = let s = short in let r = free in omega arith

  abbrev here : ℕ → ℕ
  here = put1 (λ u. mem (PoolWord u)) w n

  else_ : (u : ℕ) → u ≢ w → put1 (λ u. mem (PoolWord u)) w n u ≡ mem (PoolWord u)
  else_ u ne = put1_else (λ u. mem (PoolWord u)) w n u ne

  no_slot_line : (j : ℕ) → w / 8 ≢ line_of_slot (views k).fixed.shape (views k).fixed.lane j
  no_slot_line j q = let e = (x.each_lane k ink).lane in let p = lane_at in let s = short in let r = free in omega arith

  abbrev LoggedNow : Log → Type 0
  LoggedNow log = Logged o mem new views views' g x k ink w n (8 + 2 * length (views k).log.entries + length (views k).log.pair) at in_area m due b log

  slot_else : (j y : ℕ) → j ≤ 64 → y < 8 → put1 (λ u. mem (PoolWord u)) w n (8 * line_of_slot o.shape k j + y) ≡ mem (PoolWord (8 * line_of_slot o.shape k j + y))
  slot_else j y r s = else_ (8 * line_of_slot o.shape k j + y) (λ q. let p = lane_at in let z = short in let c = free in omega arith)

  slots : (j : ℕ) → j < 64 → Rattle.pm_world.specs.Logs.slot_list (λ y. put1 (λ u. mem (PoolWord u)) w n (8 * line_of_slot o.shape k j + y)) ≡ Rattle.pm_world.specs.Logs.slot_list ((cells_of o.shape mem).slot k j)
  slots j r = λ t. slot_else j 0 (omega arith) (omega arith) t ∷ slot_else j 1 (omega arith) (omega arith) t ∷ slot_else j 2 (omega arith) (omega arith) t ∷ slot_else j 3 (omega arith) (omega arith) t
      ∷ slot_else j 4 (omega arith) (omega arith) t ∷ slot_else j 5 (omega arith) (omega arith) t ∷ slot_else j 6 (omega arith) (omega arith) t ∷ slot_else j 7 (omega arith) (omega arith) t ∷ []

  old_pair : (j : ℕ) → j < length (views k).log.entries → (h : ℕ) → h < 2 → put1 (λ u. mem (PoolWord u)) w n (word_of_entry o.shape k j + h) ≡ mem (PoolWord (word_of_entry o.shape k j + h))
  old_pair j r h s = else_ (word_of_entry o.shape k j + h) (λ q. let p = lane_at in omega arith)

  -- the log over the new words, with these entries and this pair
  log_with : (es' : List Entry) (pair' : List ℕ) → length es' ≤ 64 → length pair' < 2
      → ((j : ℕ) (e : Entry) → slice_get es' j ≡ Some e → (put1 (λ u. mem (PoolWord u)) w n (word_of_entry o.shape k j + 0) ≡ entry_head e) × (put1 (λ u. mem (PoolWord u)) w n (word_of_entry o.shape k j + 1) ≡ e.value) × (e.value < 2 ^ 64)
      × IfSome e.place (λ p. (is_place o.shape p ≡ true) × (word_of o.shape p ≡ e.word) × EntryOf p e.op e.value))
      → ((j : ℕ) → j < length pair' → put1 (λ u. mem (PoolWord u)) w n (word_of_entry o.shape k (length es') + j) ≡ slice_index pair' j)
      → LoggedNow (record (views k).log { phase = Open; entries = es'; pair = pair' })
  log_with es' pair' most few pairs parts = record {
    first = l.first;
    last = l.last;
    below = λ _. subst (λ s. (views k).log.generation < Rattle.pm_layout.specs.Areas.greatest_generation s) (x.each_lane k ink).shape a.below;
    stored = else_ (word_of_generation o.shape k) (λ q. let p = lane_at in omega arith) ∙ l.stored;
    bump = l.bump;
    sealed = else_ (Rattle.pm_layout.specs.Areas.word_of_seal o.shape k) (λ q. let p = lane_at in omega arith) ∙ l.sealed;
    entries_most = most;
    records_most = l.records_most;
    pairs = pairs;
    pair_part = parts;
    records = λ j r q. let t = l.records j r q in let c = slice_get_within (views k).log.records j r q in let u = l.records_most in (λ y z. slot_else j y (omega arith) z ∙ t.0 y z, t.1, t.2, t.3, t.4, t.5);
    once = l.once;
    olds = l.olds;
    slot_part = λ j q. let u = l.records_most in let s = l.phase.0 in slot_else (length (views k).log.records) j (omega arith) (omega arith) ∙ l.slot_part j q;
    stale = λ j u q z t. l.stale j u q z (sym (ap undo_of (slots j z)) ∙ t);
    slot_changes = all_cons (λ (c : Undrained). part_of o.shape k c.word ≡ Rattle.pm_view.specs.Parts.SlotPart → c.word < 8 * line_of_slot o.shape k (Rattle.pm_world.specs.Logs.used_slots ((views k).log))) (undrained_by (views k) w) (views k).changes (λ _. let e = lane_at in let s = short in let r = free in omega arith) l.slot_changes;
    area_changes = all_cons (λ (c : Undrained). AreaChange Open (length es') (views k).log.generation (part_of o.shape k c.word) c) (undrained_by (views k) w) (views k).changes
        (subst (λ p. AreaChange Open (length es') (views k).log.generation p (undrained_by (views k) w)) (sym (subst (λ i. part_of o.shape i w ≡ EntryPart) (x.each_lane k ink).lane (subst (λ s. part_of s (views k).fixed.lane w ≡ EntryPart) (x.each_lane k ink).shape in_entry))) tt)
        (λ j d q. let c = Rattle.std.specs.Prelude.slice_index_or (views k).changes j d in open_change (length (views k).log.entries) (length es') (views k).log.generation (views k).log.generation (part_of o.shape k c.word) c (l.area_changes j d q));
    phase = (l.phase.0, few);
  }

  old_pairs : (j : ℕ) (e : Entry) → slice_get (views k).log.entries j ≡ Some e → (put1 (λ u. mem (PoolWord u)) w n (word_of_entry o.shape k j + 0) ≡ entry_head e) × (put1 (λ u. mem (PoolWord u)) w n (word_of_entry o.shape k j + 1) ≡ e.value) × (e.value < 2 ^ 64)
      × IfSome e.place (λ p. (is_place o.shape p ≡ true) × (word_of o.shape p ≡ e.word) × EntryOf p e.op e.value)
  old_pairs j e q = let t = l.pairs j e q in let r = slice_get_within (views k).log.entries j e q in (old_pair j r 0 (omega arith) ∙ t.0, old_pair j r 1 (omega arith) ∙ t.1, t.2, t.3)

  at_open : SightFits o.shape (cells_of o.shape mem) (settled_words o g) (Flies (ghost_of g) k) (ghost_of g) k (record (sight_of (views k)) { phase = Open })
  at_open = at_phase o.shape o.lanes (origin o) (cells_of o.shape mem) (λ j. sight_of (views j)) (ghost_of g) x.bits k ink Open open_

  -- THE WORLD with this log
  world_with_log : (es' : List Entry) (pair' : List ℕ) → SightFits o.shape (cells_of o.shape mem) (settled_words o g) (Flies (ghost_of g) k) (ghost_of g) k (record (sight_of (views k)) { phase = Open; call = call_of (views k).fixed.shape (views k).claims (record (views k).log { entries = es'; pair = pair' }) })
      → LoggedNow (record (views k).log { phase = Open; entries = es'; pair = pair' }) → Turn views views' k (after_store (views k) w n (record (views k).log { entries = es'; pair = pair' })) → World o new views' g
  world_with_log es' pair' sight fits t = let log = record (views k).log { entries = es'; pair = pair' } in area_world o mem new views views' g x k ink w n (8 + 2 * length (views k).log.entries + length (views k).log.pair) at in_area m due b log (λ j y. y)
      (sight_from o mem new views views' g x k ink w n (8 + 2 * length (views k).log.entries + length (views k).log.pair) at in_area m due b log Open open_
      (λ p. logged_else (views k).fixed.shape (views k).fixed.lane (undrained_by (views k) w) (views k).changes 0 (views k).log.records p (λ j _. no_slot_line j)) (sight_of (views k)).logged (λ p. refl) sight)
      (subst (λ z. LoggedNow (record (views k).log { phase = z; entries = es'; pair = pair' })) (sym open_) fits) (x.each_lane k ink).number (x.each_lane k ink).made (x.each_lane k ink).recorded t

  -- the first word of the pair
  first_word : (views k).log.pair ≡ [] → Turn views views' k (after_store (views k) w n (record (views k).log { pair = n ∷ [] })) → World o new views' g
  first_word none_ t = world_with_log (views k).log.entries (n ∷ []) at_open (log_with (views k).log.entries (n ∷ []) (let r = free in omega arith) (omega arith) old_pairs
      (λ j q. let z : j ≡ 0 = omega arith in let p : w ≡ word_of_entry o.shape k (length (views k).log.entries) + 0 = lane_at ∙ ap (λ y. word_of_entry o.shape k (length (views k).log.entries) + length y) none_ in
      ap (λ y. put1 (λ u. mem (PoolWord u)) w n (word_of_entry o.shape k (length (views k).log.entries) + y)) z ∙ (ap (put1 (λ u. mem (PoolWord u)) w n) (sym p) ∙ (put1_here (λ u. mem (PoolWord u)) w n ∙ sym (ap (slice_index (n ∷ [])) z))))) t

  -- the second: the entry is whole
  module _ (head : ℕ) (one : (views k).log.pair ≡ head ∷ []) where
    spelled_ : (head ∷ n ∷ []) ≡ (8 * a.word + op_code a.how) ∷ a.value ∷ []
    spelled_ = subst (λ y. y ++ n ∷ [] ≡ take (length y + 1) ((8 * a.word + op_code a.how) ∷ a.value ∷ [])) one a.spells

    head_is : head ≡ 8 * a.word + op_code a.how
    head_is = ap (λ y. slice_index y 0) spelled_

    value_is : n ≡ a.value
    value_is = ap (λ y. slice_index y 1) spelled_

    abbrev whole : Entry
    whole = record { word = a.word; place = place_at (views k).fixed.shape (class (views k).claims) a.word; op = a.how; value = a.value }

    entered_is : entered (views k).fixed.shape (class (views k).claims) head n ≡ record { word = a.word; place = place_at (views k).fixed.shape (class (views k).claims) a.word; op = a.how; value = a.value }
    entered_is = ap (λ y. entered (views k).fixed.shape (class (views k).claims) y n) head_is ∙ (ap (λ y. entered (views k).fixed.shape (class (views k).claims) (8 * a.word + op_code a.how) y) value_is
        ∙ (ap (λ y. record { word = y; place = place_at (views k).fixed.shape (class (views k).claims) y; op = Rattle.std.specs.Prelude.unwrap_or (op_of ((8 * a.word + op_code a.how) % 8)) Set; value = a.value }) (code_word a.how a.word)
        ∙ ap (λ y. record { word = a.word; place = place_at (views k).fixed.shape (class (views k).claims) a.word; op = Rattle.std.specs.Prelude.unwrap_or y Set; value = a.value }) (code_op a.how a.word)))

    asked : Enters (settled_words o g) (ghost_of g) (sight_of (views k)).hold (added record { word = a.word; place = place_at (views k).fixed.shape (class (views k).claims) a.word; op = a.how; value = a.value })
    asked = go (place_at (views k).fixed.shape (class (views k).claims) a.word) refl a.may
      where
        go : (p : Option Place) → place_at (views k).fixed.shape (class (views k).claims) a.word ≡ p → EntersWord (views k) a.word a.how a.value p → Enters (settled_words o g) (ghost_of g) (sight_of (views k)).hold (added record { word = a.word; place = p; op = a.how; value = a.value })
        go None e y = enters_none o.shape (cells_of o.shape mem) (settled_words o g) (Flies (ghost_of g) k) (ghost_of g) x.bits.geo k (views k) at_open (root_owned o mem views g x k ink) a.word a.how a.value
        go (Some p) e y = enters o.shape (cells_of o.shape mem) (settled_words o g) (Flies (ghost_of g) k) (ghost_of g) x.bits.geo k (views k) at_open (root_owned o mem views g x k ink) a.how a.value a.small a.word p (is_at (views k).fixed.shape (class (views k).claims) a.word p e).use_ y

    placed : IfSome (place_at (views k).fixed.shape (class (views k).claims) a.word) (λ p. (is_place o.shape p ≡ true) × (word_of o.shape p ≡ a.word) × EntryOf p a.how a.value)
    placed = go (place_at (views k).fixed.shape (class (views k).claims) a.word) refl a.gives
      where
        go : (p : Option Place) → place_at (views k).fixed.shape (class (views k).claims) a.word ≡ p → IfSome p (λ q. EntryOf q a.how a.value) → IfSome p (λ q. (is_place o.shape q ≡ true) × (word_of o.shape q ≡ a.word) × EntryOf q a.how a.value)
        go None e y = y
        go (Some p) e y = let t = is_at (views k).fixed.shape (class (views k).claims) a.word p e in (subst (λ s. is_place s p ≡ true) (x.each_lane k ink).shape t.inside, subst (λ s. word_of s p ≡ a.word) (x.each_lane k ink).shape t.word, y)

    second_word : Turn views views' k (after_store (views k) w n (record (views k).log { entries = (views k).log.entries ++ entered (views k).fixed.shape (class (views k).claims) head n ∷ []; pair = [] })) → World o new views' g
    second_word t = let e : Entry = record { word = a.word; place = place_at (views k).fixed.shape (class (views k).claims) a.word; op = a.how; value = a.value } in
        world_with_log ((views k).log.entries ++ e ∷ []) [] (entered_fits o.shape (cells_of o.shape mem) (settled_words o g) (Flies (ghost_of g) k) (ghost_of g) x.bits.geo k (views k) at_open e asked)
        (log_with ((views k).log.entries ++ e ∷ []) [] (let r = free in let y = length-append (views k).log.entries (e ∷ []) in omega arith) (omega arith)
        (λ j d q. ⊎_elim (λ (r : slice_get (views k).log.entries j ≡ Some d). old_pairs j d r) (λ (r : (j ≡ length (views k).log.entries) × (e ≡ d)). last_pair e refl j d r.0 r.1) (get_more (views k).log.entries e j d q)) (λ j q. absurd (omega arith)))
        (subst (λ y. Turn views views' k (after_store (views k) w n (record (views k).log { entries = (views k).log.entries ++ y ∷ []; pair = [] }))) entered_is t)
      where
        last_pair : (e : Entry) → e ≡ record { word = a.word; place = place_at (views k).fixed.shape (class (views k).claims) a.word; op = a.how; value = a.value } → (j : ℕ) (d : Entry) → j ≡ length (views k).log.entries → e ≡ d → (put1 (λ u. mem (PoolWord u)) w n (word_of_entry o.shape k j + 0) ≡ entry_head d) × (put1 (λ u. mem (PoolWord u)) w n (word_of_entry o.shape k j + 1) ≡ d.value) × (d.value < 2 ^ 64)
            × IfSome d.place (λ p. (is_place o.shape p ≡ true) × (word_of o.shape p ≡ d.word) × EntryOf p d.op d.value)
        last_pair e s j d z q = let p : w ≡ word_of_entry o.shape k (length (views k).log.entries) + 1 = lane_at ∙ ap (λ y. word_of_entry o.shape k (length (views k).log.entries) + length y) one in
            subst (λ y. (put1 (λ u. mem (PoolWord u)) w n (word_of_entry o.shape k j + 0) ≡ entry_head y) × (put1 (λ u. mem (PoolWord u)) w n (word_of_entry o.shape k j + 1) ≡ y.value) × (y.value < 2 ^ 64) × IfSome y.place (λ p. (is_place o.shape p ≡ true) × (word_of o.shape p ≡ y.word) × EntryOf p y.op y.value)) (sym s ∙ q) (
              ap (λ y. put1 (λ u. mem (PoolWord u)) w n (word_of_entry o.shape k y + 0)) z ∙ (else_ (word_of_entry o.shape k (length (views k).log.entries) + 0) (λ r. omega arith)
                  ∙ (l.pair_part 0 (let y = ap length one in omega arith) ∙ (ap (λ y. slice_index y 0) one ∙ head_is))),
              ap (λ y. put1 (λ u. mem (PoolWord u)) w n (word_of_entry o.shape k y + 1)) z ∙ (ap (put1 (λ u. mem (PoolWord u)) w n) (sym p) ∙ (put1_here (λ u. mem (PoolWord u)) w n ∙ value_is)),
              a.small,
              placed,
            )

  -- by the words stored of the entry before
  entry_word : (pair : List ℕ) → (views k).log.pair ≡ pair → Turn views views' k (after_store (views k) w n (with_pair (views k).fixed.shape (class (views k).claims) pair n (views k).log)) → World o new views' g
  entry_word [] e t = first_word e t
  entry_word (head ∷ []) e t = second_word head e t
  entry_word (head ∷ y ∷ rest) e t = absurd (let s = short in let q = ap length e in omega arith)

-- A WORD OF AN ENTRY KEEPS THE WORLD
pub store_entry : KeepsAt Open EntryPart
store_entry = keeps_at Open EntryPart (λ w n o mem new views views' g k x ink m due a e p b t. entry_word w n o mem new views views' g k x ink m due a e p b (views k).log.pair refl t)

-- A STORE INTO THE LANE'S OWN AREA: no place is there, so the bits at places, the picture and what is soiled stay.
use Rattle.std.specs.Prelude.{List, [], ◌∷◌, length, bit_and, not}
use Rattle.std.specs.List.{list_any}
use Rattle.std.specs.Int.{bit_at}
use Rattle.std.specs.Option.{option_map}
use Rattle.std.proofs.Common.{◌≡◌, ◌≢◌, ℕ, suc, ◌+◌, ◌/◌, ◌^◌, ◌<◌, Bool, true, false, cond, ◌==◌, ◌&&◌, ◌||◌, refl, sym, ap, ◌∙◌, subst, arith, ne_eqb, Option, None, Some}
use Rattle.std.proofs.lemmas.Bool.{cond-false}
use Rattle.std.proofs.lemmas.Nat.{and_mask}
use Rattle.std.proofs.Math.Nat.{mod-eq_of_lt}
use Rattle.pm_layout.specs.declared.shape.Shape.{Shape}
use Rattle.pm_layout.specs.Areas.{word_of_generation, line_of_slot}
use Rattle.pm_view.specs.Bits.{all_bits}
use Rattle.pm_view.specs.Changes.{Undrained, is_in_line, is_dirty_bit}
use Rattle.pm_view.specs.Claims.{Claim, Knows, pictured}
use Rattle.pm_view.specs.Counts.{MayCount}
use Rattle.pm_view.specs.Log.{Phase, Recorded, Log, old_in}
use Rattle.pm_view.specs.Parts.{Part}
use Rattle.pm_view.specs.Places.{Place, InRun, InHuge, Descr, RootWord, Block, word_of, is_place, twin}
use Rattle.pm_view.specs.View.{View}
use Rattle.pm_view.specs.Views.{part_in, value_in, was_in, was_of}
use Rattle.pm_world.specs.States.{State, Diff, Cells, given, put1}
use Rattle.pm_world.specs.Sights.{Hold, Sight, hold_of, is_pictured, picture, is_use, is_soiled, is_slot_drained, is_logged_from, is_logged, call_of, sight_of}
use Rattle.pm_world.specs.Lanes.{Ghost, owns, Flies, flies_at, SightFits}
use Rattle.pm_world.specs.Logs.{IsOld, LogFits}
use Rattle.pm_world.specs.Lawful.{MayStore}
use Rattle.pm_world.specs.Laws.{Turn}
use Rattle.pm_world.specs.Memory.{Memory, PoolWord, LockWord, RunWord, ZoneWord, ZoneLock, CommitCounter, StopWord, Becomes, bit, bits_of, descriptor_told, cells_by, cells_of}
use Rattle.pm_world.specs.World.{Opening, Views, Past, ghost_of, settled_words, NumberFits, AreaFits, World}
use Rattle.pm_world.proofs.AfterStore.{after_store, store_world}
use Rattle.pm_world.proofs.Cells.{cells_stored, bits_else, descriptor_else}
use Rattle.pm_world.proofs.Stored.{OwnWords}

-- no place is a word of a lane's area
pub area_apart : (sh : Shape) (lane i w : ℕ) → lane < sh.lanes → i < 1024 → w ≡ word_of_generation sh lane + i → (p : Place) → w ≢ word_of sh p
area_apart sh lane i w a b e (InRun c u) q = omega arith
area_apart sh lane i w a b e (InHuge c u) q = omega arith
area_apart sh lane i w a b e (Descr c) q = omega arith
area_apart sh lane i w a b e RootWord q = omega arith

-- the change that a store makes
abbrev pub undrained_by : View → ℕ → Undrained
undrained_by v w = record { word = w; mask = all_bits; old = option_map (λ old. bit_and old all_bits) (was_in v w); flushed = false }

-- it has what the lane knew of the word, where that is kept
pub old_known : (v : View) (w x : ℕ) (part : Part) → part_in v w ≡ part → ((known : Option ℕ) → was_of v.log.phase part known ≡ known) → x < 2 ^ 64 → value_in v w ≡ Some x → IsOld x (undrained_by v w)
old_known v w x part at keeps l e = (refl, ap (option_map (λ old. bit_and old all_bits)) (ap (λ q. was_of v.log.phase q (value_in v w)) at ∙ keeps (value_in v w) ∙ e) ∙ ap Some (and_mask x 64 ∙ mod-eq_of_lt l))

-- ---- a word that is no place's
module _ (v : View) (w n : ℕ) (apart : (p : Place) → w ≢ word_of v.fixed.shape p) where
  pub same_picture : (p : Place) (b : ℕ) → picture v.fixed.shape (Knows w n ∷ v.claims) p b ≡ picture v.fixed.shape v.claims p b
  same_picture p b = ap (λ y. cond (is_pictured p) (option_map (λ x. bit_at x b == 1) y) None) (cond-false (w == word_of v.fixed.shape p) (Some n) (pictured v.fixed.shape v.claims (word_of v.fixed.shape p)) (ne_eqb w (word_of v.fixed.shape p) (apart p)))

  pub same_soiled : (p : Place) (b : ℕ) → is_soiled v.fixed.shape (hold_of v.fixed.shape v.claims) (undrained_by v w ∷ v.changes) p b ≡ is_soiled v.fixed.shape (hold_of v.fixed.shape v.claims) v.changes p b
  same_soiled p b = ap (λ y. is_use (hold_of v.fixed.shape v.claims) p && ((y && (bit_at all_bits b == 1)) || is_dirty_bit v.changes (word_of v.fixed.shape p) b)) (ne_eqb w (word_of v.fixed.shape p) (apart p))

  -- the lane's sight with this log
  abbrev pub sight_logged : Log → Sight
  sight_logged log = record {
    hold = hold_of v.fixed.shape v.claims;
    phase = log.phase;
    call = call_of v.fixed.shape v.claims log;
    picture = picture v.fixed.shape v.claims;
    logged = is_logged v.fixed.shape v.fixed.lane (undrained_by v w ∷ v.changes) log.records;
    soiled = is_soiled v.fixed.shape (hold_of v.fixed.shape v.claims) v.changes;
  }

  pub sight_after : (log : Log) → sight_of (after_store v w n log) ≡ sight_logged log
  sight_after log = λ i. record {
    hold = hold_of v.fixed.shape v.claims;
    phase = log.phase;
    call = record {
      entries = Rattle.pm_view.specs.Entries.redos log.entries;
      fresh = λ p b. cond (Rattle.pm_view.specs.Places.is_data p && (Rattle.pm_world.specs.Sights.is_made (Rattle.pm_view.specs.Entries.turn (Rattle.pm_view.specs.Entries.latest (Rattle.pm_view.specs.Entries.redos log.entries)) (Rattle.pm_view.specs.Places.block_of (Rattle.pm_view.specs.Claims.geometry v.fixed.shape v.claims) p b)) || Rattle.pm_world.specs.Sights.is_recorded log.records p)) (same_picture p b i) None;
    };
    picture = λ p b. same_picture p b i;
    logged = is_logged v.fixed.shape v.fixed.lane (undrained_by v w ∷ v.changes) log.records;
    soiled = λ p b. same_soiled p b i;
  }

-- a word in no slot's line leaves what is under a drained record
pub logged_else : (sh : Shape) (lane : ℕ) (c : Undrained) (changes : List Undrained) (j : ℕ) (rs : List Recorded) (p : Place) → ((i : ℕ) → i < j + length rs → c.word / 8 ≢ line_of_slot sh lane i) → is_logged_from sh lane (c ∷ changes) j rs p ≡ is_logged_from sh lane changes j rs p
logged_else sh lane c changes j [] p h = refl
logged_else sh lane c changes j (r ∷ rs) p h = ap (λ t. (given (old_in r p) && not (t || list_any (is_in_line (line_of_slot sh lane j)) changes)) || is_logged_from sh lane (c ∷ changes) (suc j) rs p) (ne_eqb (c.word / 8) (line_of_slot sh lane j) (h j (omega arith)))
    ∙ ap (λ t. (given (old_in r p) && is_slot_drained sh lane changes j) || t) (logged_else sh lane c changes (suc j) rs p (λ i l. h i (omega arith)))

-- a lane's sight fits over words whose areas alone changed
pub over_area : (sh : Shape) (cells : Cells) (S : State) (flies : ℕ → Diff → Type 0) (g : Ghost) (k : ℕ) (x : Sight) (generation seal : ℕ → ℕ) (entry slot : ℕ → ℕ → ℕ → ℕ) → SightFits sh cells S flies g k x → SightFits sh (record cells { generation = generation; seal = seal; entry = entry; slot = slot }) S flies g k x
over_area sh cells S flies g k x generation seal entry slot f = record { hold = f.hold; bits = f.bits; picture = f.picture; turns = f.turns; call = f.call; reach = f.reach; plain = f.plain; logged = f.logged; stored = f.stored; fresh = f.fresh; sizes = f.sizes; born = f.born; guarded = f.guarded; soiled = f.soiled }

module _ (o : Opening) (mem new : Memory) (views views' : Views) (g : Past) (x : World o mem views g) (k : ℕ) (ink : k < o.lanes) (w n i : ℕ) (at : w ≡ word_of_generation o.shape k + i) (in_area : i < 1024) (m : MayStore (views k) w n) (due : MayCount (views k)) (b : Becomes (PoolWord w) n mem new) where
  apart : (p : Place) → w ≢ word_of o.shape p
  apart = area_apart o.shape k i w (let most = x.most_lanes in omega arith) in_area at

  pub apart_in : (p : Place) → w ≢ word_of (views k).fixed.shape p
  apart_in = subst (λ s. (p : Place) → w ≢ word_of s p) (sym (x.each_lane k ink).shape) apart

  pool_same : (p : Place) (c : ℕ) → bits_of o.shape (put1 (λ u. mem (PoolWord u)) w n) p c ≡ bits_of o.shape (λ u. mem (PoolWord u)) p c
  pool_same (InRun d u) c = bits_else o.shape (λ u. mem (PoolWord u)) w n (InRun d u) c (λ q. apart (InRun d u) (sym q))
  pool_same (InHuge d u) c = ap (λ y. is_place o.shape (InHuge d u) && y) (bit_same (word_of o.shape (InHuge d u)) (apart (InHuge d u)) c)
    where
      bit_same : (a : ℕ) → w ≢ a → (c : ℕ) → bit (put1 (λ u. mem (PoolWord u)) w n a) c ≡ bit (mem (PoolWord a)) c
      bit_same a ne c = ap (λ y. bit y c) (cond-false (a == w) n (mem (PoolWord a)) (ne_eqb a w (λ q. ne (sym q))))
  pool_same (Descr d) c = bits_else o.shape (λ u. mem (PoolWord u)) w n (Descr d) c (λ q. apart (Descr d) (sym q))
  pool_same RootWord c = bits_else o.shape (λ u. mem (PoolWord u)) w n RootWord c (λ q. apart RootWord (sym q))

  descr_same : (c : ℕ) → descriptor_told o.shape (put1 (λ u. mem (PoolWord u)) w n) c ≡ descriptor_told o.shape (λ u. mem (PoolWord u)) c
  descr_same c = descriptor_else o.shape (λ u. mem (PoolWord u)) w n c (λ q. apart (Descr c) (sym q))

  abbrev words : ℕ → ℕ
  words = put1 (λ u. mem (PoolWord u)) w n

  abbrev put_cells : Cells
  put_cells = cells_by o.shape (put1 (λ u. mem (PoolWord u)) w n) (λ l. mem (LockWord l)) (λ c. mem (RunWord c)) (λ z. mem (ZoneWord z)) (λ z. mem (ZoneLock z)) (mem CommitCounter) (mem StopWord)

  abbrev area_cells : Cells
  area_cells = record (cells_of o.shape mem) { generation = put_cells.generation; seal = put_cells.seal; entry = put_cells.entry; slot = put_cells.slot }

  pub cells_area : cells_of o.shape new ≡ area_cells
  cells_area = cells_stored o.shape mem new w n b ∙ (λ j. record area_cells { pool = λ p c. pool_same p c j; descr = λ c. descr_same c j })

  own_words : OwnWords (settled_words o g) (ghost_of g) (sight_of (views k)).hold (cells_of o.shape mem) (cells_of o.shape new)
  own_words = subst (OwnWords (settled_words o g) (ghost_of g) (sight_of (views k)).hold (cells_of o.shape mem)) (sym cells_area)
      record { pool = λ p c _ _. refl; descr = λ c. refl; writer = λ l j. refl; reader = λ l j. refl; occ = λ a. refl; counter = refl }

  -- what is owed of the log, over the words after the store
  abbrev pub Logged : Log → Type 0
  Logged log = LogFits o.shape k (put_cells.generation k) (put_cells.seal k) (put_cells.entry k) (put_cells.slot k) (settled_words o g) (owns g.geo (settled_words o g) (sight_of (views k)).hold) (sight_of (views k)).picture log (undrained_by (views k) w ∷ (views k).changes)

  -- a sight of the lane whose log this is, where the store is in no slot's line and the phase is this one
  pub sight_from : (log : Log) (ph : Phase) → log.phase ≡ ph → ((p : Place) → is_logged (views k).fixed.shape (views k).fixed.lane (undrained_by (views k) w ∷ (views k).changes) log.records p ≡ is_logged (views k).fixed.shape (views k).fixed.lane (views k).changes log.records p)
      → (logged : Place → Bool) → ((p : Place) → logged p ≡ is_logged (views k).fixed.shape (views k).fixed.lane (views k).changes log.records p)
      → SightFits o.shape (cells_of o.shape mem) (settled_words o g) (Flies (ghost_of g) k) (ghost_of g) k (record (sight_of (views k)) { phase = ph; call = call_of (views k).fixed.shape (views k).claims log; logged = logged })
      → SightFits o.shape (cells_of o.shape mem) (settled_words o g) (Flies (ghost_of g) k) (ghost_of g) k (sight_logged (views k) w n apart_in log)
  sight_from log ph e same logged q f = subst (λ z. SightFits o.shape (cells_of o.shape mem) (settled_words o g) (Flies (ghost_of g) k) (ghost_of g) k (record (sight_logged (views k) w n apart_in log) { phase = z })) (sym e)
      (subst (λ y. SightFits o.shape (cells_of o.shape mem) (settled_words o g) (Flies (ghost_of g) k) (ghost_of g) k (record (sight_logged (views k) w n apart_in log) { phase = ph; logged = y })) (λ i p. (q p ∙ sym (same p)) i) f)

  pub area_world : (log : Log) → ((j : ℕ) → flies_at (views k).log.phase j → flies_at log.phase j) → SightFits o.shape (cells_of o.shape mem) (settled_words o g) (Flies (ghost_of g) k) (ghost_of g) k (sight_logged (views k) w n apart_in log) → Logged log → NumberFits log.phase (views k).number
      → (Rattle.pm_world.specs.Lanes.is_decided log.phase ≡ true → (c : ℕ) → Rattle.pm_view.specs.Claims.making (views k).fixed.shape (views k).claims c ≡ false) → (Rattle.pm_world.specs.Lanes.is_decided log.phase ≡ false → (p : Rattle.pm_view.specs.Places.Place) → Rattle.pm_world.specs.Sights.is_recorded log.records p ≡ true → Rattle.pm_world.specs.World.RecordedFits g.geo (sight_of (views k)) p) → Turn views views' k (after_store (views k) w n log) → World o new views' g
  area_world log flies sight fits number made recorded t = store_world o mem new views views' g x k ink w n m due b log (omega arith) (λ j h l ne s q. omega arith) own_words flies
      (subst (SightFits o.shape (cells_of o.shape new) (settled_words o g) (Flies (ghost_of g) k) (ghost_of g) k) (sym (sight_after (views k) w n apart_in log))
      (subst (λ c. SightFits o.shape c (settled_words o g) (Flies (ghost_of g) k) (ghost_of g) k (sight_logged (views k) w n apart_in log)) (sym cells_area)
      (over_area o.shape (cells_of o.shape mem) (settled_words o g) (Flies (ghost_of g) k) (ghost_of g) k (sight_logged (views k) w n apart_in log) put_cells.generation put_cells.seal put_cells.entry put_cells.slot sight)))
      (subst (λ c. LogFits o.shape k (c.generation k) (c.seal k) (c.entry k) (c.slot k) (settled_words o g) (owns g.geo (settled_words o g) (sight_of (views k)).hold) (sight_of (after_store (views k) w n log)).picture log (undrained_by (views k) w ∷ (views k).changes)) (sym cells_area)
      (subst (λ d. LogFits o.shape k (put_cells.generation k) (put_cells.seal k) (put_cells.entry k) (put_cells.slot k) (settled_words o g) (owns g.geo (settled_words o g) (sight_of (views k)).hold) d log (undrained_by (views k) w ∷ (views k).changes)) (λ j p c. sym (same_picture (views k) w n apart_in p c) j) fits))
      number made recorded t

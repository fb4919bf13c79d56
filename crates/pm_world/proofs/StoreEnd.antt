-- THE STORES THAT DECIDE, and the one that aborts: the seal, and the next generation.
use Rattle.std.specs.Prelude.{List, [], ◌∷◌, length, if◌then◌else◌}
use Rattle.std.proofs.Common.{◌≡◌, ◌≢◌, ℕ, suc, ◌+◌, ◌*◌, ◌/◌, ◌%◌, ◌<◌, Bool, true, false, cond, ◌==◌, ◌&&◌, refl, sym, ap, ◌∙◌, subst, arith, None, Some}
use Rattle.std.proofs.lemmas.Bool.{eqb-true, both_ways, cond_both}
use Rattle.pm_layout.specs.declared.shape.Shape.{Shape}
use Rattle.pm_layout.specs.Areas.{greatest_generation, word_of_generation, word_of_seal, word_of_entry, line_of_slot}
use Rattle.pm_layout.specs.Chunks.{is_chunk_page, chunk_at, is_descriptor_word, chunk_described, word_of_root}
use Rattle.pm_record.specs.Undo.{undo_of}
use Rattle.pm_view.specs.Changes.{Undrained, is_dirty_bit}
use Rattle.pm_view.specs.Counts.{MayCount}
use Rattle.pm_view.specs.Entries.{Entry, latest, redos, turn}
use Rattle.pm_view.specs.Log.{Phase, Open, Drawn, Sealing, Retiring, Voiding, Log}
use Rattle.pm_view.specs.Parts.{Part, GenerationPart, SealPart, EntryPart, SlotPart, RootPart, DescriptorPart, ChunkPart, OtherPart, is_entry_word, is_slot_word, pool_part, part_of}
use Rattle.pm_view.specs.Places.{Place, Block, Small, Big, Root}
use Rattle.pm_view.specs.Views.{part_in, value_in}
use Rattle.pm_world.specs.States.{put1}
use Rattle.pm_world.specs.Sights.{is_use, sight_of}
use Rattle.pm_world.specs.Lanes.{owns, SightFits, Flies, flies_at}
use Rattle.pm_world.specs.Lawful.{Seals, EndsGeneration, Voids, MayStore}
use Rattle.pm_world.specs.Logs.{LogFits, IsOld, AreaChange, BumpFits, PhaseFits, seal_in, slot_list}
use Rattle.pm_world.specs.Laws.{KeepsAt, Turn}
use Rattle.pm_world.specs.Memory.{Memory, PoolWord, Becomes, cells_of}
use Rattle.pm_world.specs.World.{Opening, Views, Past, origin, ghost_of, settled_words, NumberFits, World}
use Rattle.pm_world.proofs.Basics.{and_false}
use Rattle.pm_world.proofs.AfterStore.{after_store, keeps_at}
use Rattle.pm_world.proofs.Going.{at_phase}
use Rattle.pm_world.proofs.Replays.{put1_here, put1_else}
use Rattle.pm_world.proofs.StepDraw.{all_cons}
use Rattle.pm_world.proofs.StoreArea.{undrained_by, old_known, logged_else, sight_from, Logged, area_world}

-- ---- which words are the generation and the seal
abbrev IsWordOf : Shape → ℕ → ℕ → Part → Type 0
IsWordOf sh lane w GenerationPart = w ≡ word_of_generation sh lane
IsWordOf sh lane w SealPart = w ≡ word_of_seal sh lane
IsWordOf sh lane w part = Unit {0}

part_word : (sh : Shape) (lane w : ℕ) → IsWordOf sh lane w (part_of sh lane w)
part_word sh lane w = let chunk = if is_chunk_page sh (w / 512) then ChunkPart (chunk_at sh (w / 512)) (w % 512) else OtherPart in let descr = if is_descriptor_word sh w then DescriptorPart (chunk_described sh w) else chunk in
    let pool = if w == word_of_root sh then RootPart else descr in let slot = if is_slot_word sh lane w then SlotPart else pool in let entry = if is_entry_word sh lane w then EntryPart else slot in let seal = if w == word_of_seal sh lane then SealPart else entry in
    cond_both (w == word_of_generation sh lane) GenerationPart seal (IsWordOf sh lane w) (λ e. eqb-true w (word_of_generation sh lane) e) (λ _. cond_both (w == word_of_seal sh lane) SealPart entry (IsWordOf sh lane w) (λ e. eqb-true w (word_of_seal sh lane) e)
    (λ _. cond_both (is_entry_word sh lane w) EntryPart slot (IsWordOf sh lane w) (λ _. tt) (λ _. cond_both (is_slot_word sh lane w) SlotPart pool (IsWordOf sh lane w) (λ _. tt) (λ _. cond_both (w == word_of_root sh) RootPart descr (IsWordOf sh lane w) (λ _. tt)
    (λ _. cond_both (is_descriptor_word sh w) (DescriptorPart (chunk_described sh w)) chunk (IsWordOf sh lane w) (λ _. tt) (λ _. cond_both (is_chunk_page sh (w / 512)) (ChunkPart (chunk_at sh (w / 512)) (w % 512)) OtherPart (IsWordOf sh lane w) (λ _. tt) (λ _. tt)))))))

-- a call without entries does nothing to blocks
no_turn : (es : List Entry) → es ≡ [] → (B : Block) → turn (latest (redos es)) B ≡ None
no_turn es e (Small c i) = ap (λ n. latest (redos n) (Rattle.pm_view.specs.Places.InRun c 0) i) e
no_turn es e (Big c) = ap (λ n. latest (redos n) (Rattle.pm_view.specs.Places.Descr c) 1) e
no_turn es e Root = refl

module _ (w n i : ℕ) (o : Opening) (mem new : Memory) (views views' : Views) (g : Past) (k : ℕ) (x : World o mem views g) (ink : k < o.lanes) (m : MayStore (views k) w n) (due : MayCount (views k)) (b : Becomes (PoolWord w) n mem new)
    (low : i < 2) (at : w ≡ word_of_generation o.shape k + i) (clean : (views k).changes ≡ []) where
  in_area : i < 1024
  in_area = omega arith

  abbrev OldLog : Log → Type 0
  OldLog log = LogFits o.shape k ((cells_of o.shape mem).generation k) ((cells_of o.shape mem).seal k) ((cells_of o.shape mem).entry k) ((cells_of o.shape mem).slot k) (settled_words o g) (owns g.geo (settled_words o g) (sight_of (views k)).hold) (sight_of (views k)).picture log (views k).changes

  old_log : (ph : Phase) → (views k).log.phase ≡ ph → OldLog (record (views k).log { phase = ph })
  old_log ph e = subst (λ z. OldLog (record (views k).log { phase = z })) e (x.each_lane k ink).log

  old_sight : (ph : Phase) → (views k).log.phase ≡ ph → SightFits o.shape (cells_of o.shape mem) (settled_words o g) (Flies (ghost_of g) k) (ghost_of g) k (record (sight_of (views k)) { phase = ph })
  old_sight ph e = at_phase o.shape o.lanes (origin o) (cells_of o.shape mem) (λ j. sight_of (views j)) (ghost_of g) x.bits k ink ph e

  else_ : (u : ℕ) → u ≢ w → put1 (λ u. mem (PoolWord u)) w n u ≡ mem (PoolWord u)
  else_ u ne = put1_else (λ u. mem (PoolWord u)) w n u ne

  no_slot_line : (j : ℕ) → w / 8 ≢ line_of_slot (views k).fixed.shape (views k).fixed.lane j
  no_slot_line j q = let e = (x.each_lane k ink).lane in omega arith

  slot_else : (j y : ℕ) → put1 (λ u. mem (PoolWord u)) w n (8 * line_of_slot o.shape k j + y) ≡ mem (PoolWord (8 * line_of_slot o.shape k j + y))
  slot_else j y = else_ (8 * line_of_slot o.shape k j + y) (λ q. omega arith)

  slots : (j : ℕ) → slot_list (λ y. put1 (λ u. mem (PoolWord u)) w n (8 * line_of_slot o.shape k j + y)) ≡ slot_list ((cells_of o.shape mem).slot k j)
  slots j = ap slot_list (λ t y. slot_else j y t)

  entry_else : (j h : ℕ) → put1 (λ u. mem (PoolWord u)) w n (word_of_entry o.shape k j + h) ≡ mem (PoolWord (word_of_entry o.shape k j + h))
  entry_else j h = else_ (word_of_entry o.shape k j + h) (λ q. omega arith)

  -- the log over the new words, in this phase
  log_in : (was ph : Phase) (bumped : Bool) → (views k).log.phase ≡ was → Rattle.pm_world.specs.Lanes.is_decided ph ≡ Rattle.pm_world.specs.Lanes.is_decided was → (views k).log.generation < greatest_generation o.shape
      → put1 (λ u. mem (PoolWord u)) w n (word_of_generation o.shape k) ≡ cond bumped (suc (views k).log.generation) (views k).log.generation → BumpFits ph bumped → put1 (λ u. mem (PoolWord u)) w n (word_of_seal o.shape k) ≡ seal_in ph (length (views k).log.entries)
      → AreaChange ph (length (views k).log.entries) (views k).log.generation (part_of o.shape k w) (undrained_by (views k) w)
      → PhaseFits o.shape k (sight_of (views k)).picture (record (views k).log { phase = ph; bumped = bumped }) (undrained_by (views k) w ∷ (views k).changes) ph
      → Logged o mem new views views' g x k ink w n i at in_area m due b (record (views k).log { phase = ph; bumped = bumped })
  log_in was ph bumped e same below stored bump sealed change phase = let l = old_log was e in record {
    first = l.first;
    last = l.last;
    below = λ _. below;
    stored = stored;
    bump = bump;
    sealed = sealed;
    entries_most = l.entries_most;
    records_most = l.records_most;
    pairs = λ j y q. let t = l.pairs j y q in (entry_else j 0 ∙ t.0, entry_else j 1 ∙ t.1, t.2, t.3);
    pair_part = λ j q. entry_else (length (views k).log.entries) j ∙ l.pair_part j q;
    records = λ j r q. let t = l.records j r q in (λ y z. slot_else j y ∙ t.0 y z, t.1, t.2, t.3, t.4, t.5);
    once = l.once;
    olds = λ p y q c. let t = l.olds p y q c in (t.0, λ u. t.1 (sym same ∙ u));
    slot_part = λ j q. slot_else (length (views k).log.records) j ∙ l.slot_part j q;
    stale = λ j u q z t. l.stale j u q z (sym (ap undo_of (slots j)) ∙ t);
    slot_changes = all_cons (λ (c : Undrained). part_of o.shape k c.word ≡ Rattle.pm_view.specs.Parts.SlotPart → c.word < 8 * line_of_slot o.shape k (Rattle.pm_world.specs.Logs.used_slots ((views k).log))) (undrained_by (views k) w) (views k).changes (λ _. omega arith) (λ j d q. let z = ap length clean in absurd (omega arith));
    area_changes = all_cons (λ (c : Undrained). AreaChange ph (length (views k).log.entries) (views k).log.generation (part_of o.shape k c.word) c) (undrained_by (views k) w) (views k).changes change (λ j d q. let z = ap length clean in absurd (omega arith));
    phase = phase;
  }

  -- THE WORLD with this log
  world_in : (ph : Phase) (bumped : Bool) → Rattle.pm_world.specs.Lanes.is_decided ph ≡ false → Rattle.pm_world.specs.Lanes.is_decided (views k).log.phase ≡ false → ((j : ℕ) → flies_at (views k).log.phase j → flies_at ph j)
      → SightFits o.shape (cells_of o.shape mem) (settled_words o g) (Flies (ghost_of g) k) (ghost_of g) k (record (sight_of (views k)) { phase = ph })
      → Logged o mem new views views' g x k ink w n i at in_area m due b (record (views k).log { phase = ph; bumped = bumped }) → NumberFits ph (views k).number
      → Turn views views' k (after_store (views k) w n (record (views k).log { phase = ph; bumped = bumped })) → World o new views' g
  world_in ph bumped und before flies sight fits number t = let log = record (views k).log { phase = ph; bumped = bumped } in area_world o mem new views views' g x k ink w n i at in_area m due b log flies
      (sight_from o mem new views views' g x k ink w n i at in_area m due b log ph refl (λ p. logged_else (views k).fixed.shape (views k).fixed.lane (undrained_by (views k) w) (views k).changes 0 (views k).log.records p (λ j _. no_slot_line j)) (sight_of (views k)).logged (λ p. refl) sight)
      fits number (λ y. absurd (both_ways (Rattle.pm_world.specs.Lanes.is_decided ph) und y)) (λ _. (x.each_lane k ink).recorded before) t

  part_at : (p : Part) → part_in (views k) w ≡ p → part_of o.shape k w ≡ p
  part_at p e = subst (λ y. part_of o.shape y w ≡ p) (x.each_lane k ink).lane (subst (λ s. part_of s (views k).fixed.lane w ≡ p) (x.each_lane k ink).shape e)

  below_of : (views k).log.generation < greatest_generation (views k).fixed.shape → (views k).log.generation < greatest_generation o.shape
  below_of l = subst (λ s. (views k).log.generation < greatest_generation s) (x.each_lane k ink).shape l

  -- ---- the seal
  sealing : (d : ℕ) → i ≡ 1 → (views k).log.phase ≡ Drawn d → part_in (views k) w ≡ SealPart → Seals (views k) n → Turn views views' k (after_store (views k) w n (record (views k).log { phase = Sealing d })) → World o new views' g
  sealing d one e p a t = let l = old_log (Drawn d) e in let f = old_sight (Drawn d) e in let here : word_of_seal o.shape k ≡ w = omega arith in
      world_in (Sealing d) (views k).log.bumped refl (ap Rattle.pm_world.specs.Lanes.is_decided e) (λ j y. subst (λ z. flies_at z j) e y)
      record { hold = f.hold; bits = f.bits; picture = f.picture; turns = f.turns; call = record { flight = f.call.flight; todo = f.call.todo; descr = f.call.descr }; reach = f.reach; plain = f.plain; logged = f.logged; stored = f.stored; fresh = f.fresh; sizes = f.sizes; born = f.born; guarded = f.guarded; soiled = f.soiled }
      (log_in (Drawn d) (Sealing d) (views k).log.bumped e refl (below_of a.below) (else_ (word_of_generation o.shape k) (λ q. omega arith) ∙ l.stored) l.bump (ap (put1 (λ u. mem (PoolWord u)) w n) here ∙ (put1_here (λ u. mem (PoolWord u)) w n ∙ a.all))
      (subst (λ q. AreaChange (Sealing d) (length (views k).log.entries) (views k).log.generation q (undrained_by (views k) w)) (sym (part_at SealPart p)) (old_known (views k) w 0 SealPart p (λ known. refl) (omega arith) (ap (value_in (views k)) (let y = (x.each_lane k ink).lane in omega arith) ∙ a.known)))
      (subst (λ s. Rattle.pm_world.specs.Logs.AreWhole s k (record (views k).log { phase = Sealing d })) (x.each_lane k ink).shape (subst (λ y. Rattle.pm_world.specs.Logs.AreWhole (views k).fixed.shape y (record (views k).log { phase = Sealing d })) (x.each_lane k ink).lane record { front = a.whole.front; are = a.whole.are; placed = a.whole.placed }), l.phase.1, l.phase.2))
      (subst (λ z. NumberFits z (views k).number) e (x.each_lane k ink).number) t

  -- ---- the next generation
  generation_here : i ≡ 0 → n ≡ (views k).log.generation + 1 → put1 (λ u. mem (PoolWord u)) w n (word_of_generation o.shape k) ≡ suc (views k).log.generation
  generation_here z e = let here : word_of_generation o.shape k ≡ w = omega arith in ap (put1 (λ u. mem (PoolWord u)) w n) here ∙ (put1_here (λ u. mem (PoolWord u)) w n ∙ (e ∙ omega arith))

  old_generation : i ≡ 0 → part_in (views k) w ≡ GenerationPart → value_in (views k) (word_of_generation (views k).fixed.shape (views k).fixed.lane) ≡ Some (views k).log.generation → IsOld (views k).log.generation (undrained_by (views k) w)
  old_generation z p e = old_known (views k) w (views k).log.generation GenerationPart p (λ known. refl) (let l = (x.each_lane k ink).log.last in omega arith) (ap (value_in (views k)) (let y = (x.each_lane k ink).lane in omega arith) ∙ e)

  retiring : (d : ℕ) → i ≡ 0 → (views k).log.phase ≡ Drawn d → part_in (views k) w ≡ GenerationPart → EndsGeneration (views k) n → Turn views views' k (after_store (views k) w n (record (views k).log { phase = Retiring d; bumped = true })) → World o new views' g
  retiring d z e p a t = let l = old_log (Drawn d) e in let f = old_sight (Drawn d) e in
      world_in (Retiring d) true refl (ap Rattle.pm_world.specs.Lanes.is_decided e) (λ j y. subst (λ z. flies_at z j) e y)
      record { hold = f.hold; bits = f.bits; picture = f.picture; turns = no_turn (views k).log.entries a.unentered; call = record { flight = f.call.flight; todo = f.call.todo; descr = f.call.descr }; reach = f.reach; plain = f.plain; logged = f.logged; stored = f.stored; fresh = f.fresh; sizes = f.sizes; born = f.born; guarded = f.guarded; soiled = f.soiled }
      (log_in (Drawn d) (Retiring d) true e refl (below_of a.below) (generation_here z a.next) refl (else_ (word_of_seal o.shape k) (λ q. omega arith) ∙ l.sealed)
      (subst (λ q. AreaChange (Retiring d) (length (views k).log.entries) (views k).log.generation q (undrained_by (views k) w)) (sym (part_at GenerationPart p)) (old_generation z p a.known))
      (a.unentered, l.phase.1, l.phase.2)) (subst (λ z. NumberFits z (views k).number) e (x.each_lane k ink).number) t

  voiding : i ≡ 0 → (views k).log.phase ≡ Open → part_in (views k) w ≡ GenerationPart → Voids (views k) n → Turn views views' k (after_store (views k) w n (record (views k).log { phase = Voiding; bumped = true })) → World o new views' g
  voiding z e p a t = let l = old_log Open e in let f = old_sight Open e in
      world_in Voiding true refl (ap Rattle.pm_world.specs.Lanes.is_decided e) (λ j y. subst (λ z. flies_at z j) e y)
      record {
        hold = f.hold;
        bits = f.bits;
        picture = f.picture;
        turns = no_turn (views k).log.entries a.ends.unentered;
        call = record { flight = tt; todo = f.call.todo; descr = f.call.descr };
        reach = f.reach;
        plain = f.plain;
        logged = f.logged;
        stored = f.stored;
        fresh = f.fresh;
        sizes = f.sizes;
        born = λ y. absurd (both_ways false refl y);
        guarded = λ y. absurd (both_ways false refl y);
        soiled = λ q c y. absurd (both_ways false refl (sym (ap (λ cs. is_use (sight_of (views k)).hold q && is_dirty_bit cs (Rattle.pm_view.specs.Places.word_of (views k).fixed.shape q) c) clean ∙ and_false (is_use (sight_of (views k)).hold q)) ∙ y));
      }
      (log_in Open Voiding true e refl (below_of a.ends.below) (generation_here z a.ends.next) refl (else_ (word_of_seal o.shape k) (λ q. omega arith) ∙ l.sealed)
      (subst (λ q. AreaChange Voiding (length (views k).log.entries) (views k).log.generation q (undrained_by (views k) w)) (sym (part_at GenerationPart p)) (old_generation z p a.ends.known))
      (a.ends.unentered, a.whole.0, a.whole.1, a.restored)) (subst (λ z. NumberFits z (views k).number) e (x.each_lane k ink).number) t

-- where the word is, in the lane's area
generation_at : (o : Opening) (mem : Memory) (views : Views) (g : Past) (k w : ℕ) → World o mem views g → k < o.lanes → part_in (views k) w ≡ GenerationPart → w ≡ word_of_generation o.shape k + 0
generation_at o mem views g k w x ink p = let q = subst (IsWordOf (views k).fixed.shape (views k).fixed.lane w) p (part_word (views k).fixed.shape (views k).fixed.lane w) in let e = (x.each_lane k ink).lane in omega arith

seal_at : (o : Opening) (mem : Memory) (views : Views) (g : Past) (k w : ℕ) → World o mem views g → k < o.lanes → part_in (views k) w ≡ SealPart → w ≡ word_of_generation o.shape k + 1
seal_at o mem views g k w x ink p = let q = subst (IsWordOf (views k).fixed.shape (views k).fixed.lane w) p (part_word (views k).fixed.shape (views k).fixed.lane w) in let e = (x.each_lane k ink).lane in omega arith

-- THE SEAL, ONCE ALL IS DRAINED, KEEPS THE WORLD
pub store_seal : (d : ℕ) → KeepsAt (Drawn d) SealPart
store_seal d = keeps_at (Drawn d) SealPart (λ w n o mem new views views' g k x ink m due a e p b t. sealing w n 1 o mem new views views' g k x ink m due b (omega arith) (seal_at o mem views g k w x ink p) a.drained d refl e p a t)

-- SO DOES THE NEXT GENERATION, which decides a call without entries
pub store_generation : (d : ℕ) → KeepsAt (Drawn d) GenerationPart
store_generation d = keeps_at (Drawn d) GenerationPart (λ w n o mem new views views' g k x ink m due a e p b t. retiring w n 0 o mem new views views' g k x ink m due b (omega arith) (generation_at o mem views g k w x ink p) a.drained d refl e p a t)

-- or aborts one
pub store_void : KeepsAt Open GenerationPart
store_void = keeps_at Open GenerationPart (λ w n o mem new views views' g k x ink m due a e p b t. voiding w n 0 o mem new views views' g k x ink m due b (omega arith) (generation_at o mem views g k w x ink p) a.ends.drained refl e p a t)

-- A write puts its bytes into the copy, and into the bits as the call has made them.
use Rattle.std.proofs.Common.{◌≡◌, ◌≢◌, ⊎_elim, ℕ, ◌+◌, ◌-◌, ◌*◌, ◌/◌, ◌%◌, ◌^◌, ◌<◌, ◌≤◌, nat_lt, ◌&&◌, not, Bool, true, false, cond, List, length, Option, Some, None, refl, sym, ◌∙◌, ap, subst, arith}
use Rattle.std.specs.List.{Contains, list_any, range_with_len}
use Rattle.std.proofs.lemmas.Bool.{and_from, and_parts, both_ways, cases_Bool, cond-false, cond-true, lt-ltb, ltb-true}
use Rattle.std.proofs.lemmas.Grind.{div_ceil_times}
use Rattle.pm_header.specs.declared.header.Header.{Header}
use Rattle.pm_layout.specs.Chunks.{chunks_of}
use Rattle.pm_layout.specs.declared.shape.Shape.{Shape}
use Rattle.pm_objects.specs.declared.calls.Operation.TheVariants.{Write, Increment}
use Rattle.pm_objects.specs.declared.history.Value.TheVariants.{Number}
use Rattle.pm_objects.specs.declared.ids.Oid.{Oid}
use Rattle.pm_objects.specs.declared.pool.PoolView.{PoolView}
use Rattle.pm_image.specs.declared.block.Block.{Block as Lines}
use Rattle.pm_image.specs.Blocks.{chunk_word}
use Rattle.pm_image.specs.Contents.{data_words, offset_in, size_in}
use Rattle.pm_image.specs.Reads.{AgreeOn, ReadsBlock}
use Rattle.pm_model.specs.Inside.{IsDone, Ran, after, after_reply, is_inside, is_kept_by}
use Rattle.pm_model.specs.Items.{Items, edited, number_bytes, number_of, plain_pool, put_into}
use Rattle.pm_model.specs.Transaction.{Transaction, covered_words}
use Rattle.pm_view.specs.Entries.{Entry}
use Rattle.pm_view.specs.Places.{Place, InRun, Descr, Block, Small, Big, Root, word_of}
use Rattle.pm_view.specs.View.{Constants, View}
use Rattle.pm_world.specs.Lanes.{is_occupancy}
use Rattle.pm_world.specs.States.{State, over, val}
use Rattle.pm_crash.specs.Looked.{Enters, IsObject, bytes_seen, word_place, words_in}
use Rattle.pm_crash.specs.Objects.{is_allocated, lines_of}
use Rattle.pm_crash.specs.Scenes.{IsScene}
use Rattle.pm_crash.specs.Sim.{Agrees, Came, Grows, LeadsOn, StandIn, Tells, bits_now, copy_of, tx_with}
use Rattle.pm_crash.specs.SimOps.{IsWrite, PutsBytes, SimWrites}
use Rattle.pm_crash.specs.Spelled.{Holds, has_blocks, number, words_by}
use Rattle.pm_crash.specs.Writes.{IsWritten, written_word}
use Rattle.pm_crash.proofs.Covered.{byte_is_covered, covered_has_byte}
use Rattle.pm_crash.proofs.KnownWords.{data_known}
use Rattle.pm_crash.proofs.Looked.{read_is, size_word, words_so}
use Rattle.pm_crash.proofs.OwnEntries as own
use Rattle.pm_crash.proofs.SceneMoves.{BigIn, IsIn, SmallIn, place_by, scene_moved, word_at}
use Rattle.pm_crash.proofs.SceneSteps.{scenes_are_written}
use Rattle.pm_crash.proofs.SimOps.{first_is, holds_before, is_done}
use Rattle.pm_crash.proofs.Simulation.{agrees_back, sim_goes_on}
use Rattle.pm_crash.proofs.Spelling.{number_is, with_block}

-- no word of a block is a bitmap or a descriptor
pub not_bitmap : (v : View) (B : Block) (c k : ℕ) → InRun c 0 ≢ word_place v B k
not_bitmap v (Small d i) c k e = let z : 0 ≡ 8 * (1 + Rattle.pm_view.specs.Claims.class v.claims d * i) + k = ap own.word_in e in
    let m : ℕ = Rattle.pm_view.specs.Claims.class v.claims d * i in absurd (omega arith)
not_bitmap v (Big f) c k e = absurd cc
not_bitmap v Root c k e = absurd cc

pub not_descriptor : (v : View) (B : Block) (c k : ℕ) → Descr c ≢ word_place v B k
not_descriptor v (Small d i) c k e = absurd cc
not_descriptor v (Big f) c k e = absurd cc
not_descriptor v Root c k e = absurd cc

module _ (v next : View) (entries entries' : List Entry) (off at : ℕ) (bytes : List ℕ) (p : PutsBytes v entries next entries' off at bytes)
    (kept : Bool) (classes : ℕ → ℕ) (s : State) (header : Header) (pool : PoolView) (holds : Holds v.fixed.shape classes s header pool) (x : Agrees classes v kept s) (en : Enters v entries)
    (copy : Items) (scene : StandIn v.fixed.shape classes (bits_now v entries s) copy) where
  abbrev sh : Shape
  sh = v.fixed.shape

  abbrev t : State
  t = bits_now v entries s

  abbrev t' : State
  t' = bits_now next entries' s

  abbrev B : Block
  B = p.object.block

  abbrev first : ℕ
  first = off / 8 - 8

  abbrev IsCovered : ℕ → Type 0
  IsCovered i = Contains (covered_words (off + at) (length bytes)) i

  other_bit : (q : Place) (b : ℕ) → ((i : ℕ) → IsCovered i → q ≢ word_place v B (i - first)) → t' q b ≡ t q b
  other_bit q b ne = ap (λ o. over o (s q b)) (p.others q b ne)

  -- ---- NO BLOCK COMES, GOES OR MOVES

  same_bitmap : (c : ℕ) → t' (InRun c 0) ≡ t (InRun c 0)
  same_bitmap c = λ j b. other_bit (InRun c 0) b (λ i there. not_bitmap v B c (i - first)) j

  same_descriptor : (c : ℕ) → t' (Descr c) ≡ t (Descr c)
  same_descriptor c = λ j b. other_bit (Descr c) b (λ i there. not_descriptor v B c (i - first)) j

  same_blocks : (c : ℕ) → has_blocks t' c ≡ has_blocks t c
  same_blocks c = ap (λ w. list_any w (range_with_len 0 64)) (same_bitmap c)

  same_among : (C : Block) → is_allocated sh t' C ≡ is_allocated sh t C
  same_among (Small c i) = ap (λ w. is_occupancy sh (Small c i) && w i) (same_bitmap c)
  same_among (Big f) = let h = same_blocks f in let d = same_descriptor f in λ j. nat_lt f (chunks_of sh) && (not (h j) && d j 1)
  same_among Root = refl

  same_lines : (C : Block) → lines_of sh classes t' C ≡ lines_of sh classes t C
  same_lines (Small c i) = refl
  same_lines (Big f) = ap (λ w. record { place = 8 * chunk_word sh.lanes f; lines = 64 * val w 8 56 }) (same_descriptor f)
  same_lines Root = refl

  is_in : (u : State) → ((c : ℕ) → has_blocks u c ≡ has_blocks t c) → (C : Block) → is_allocated sh t C ≡ true → IsIn sh classes u (lines_of sh classes t C) C
  is_in u same (Small c i) a =
      let y = and_parts (is_occupancy sh (Small c i)) (t (InRun c 0) i) a in
      let z = and_parts (nat_lt c (chunks_of sh)) (nat_lt i 64) y.0 in
      SmallIn c i (ltb-true c (chunks_of sh) z.0) (own.run_inside v entries kept classes s header pool holds x en c i a) (same c ∙ with_block t c i (ltb-true i 64 z.1) y.1) refl
  is_in u same (Big f) a =
      let h = own.huge_now v entries kept classes s header pool holds x en f a in
      BigIn f (val (t (Descr f)) 8 56) h.0 h.2.in_zone (λ g from to. same g ∙ ⊎_elim
      (λ (e : g ≡ f). subst (λ (n : ℕ). has_blocks t n ≡ false) (sym e) h.1)
      (λ (ne : g ≢ f). (h.2.rest g (omega arith) to).0)
      (Rattle.std.proofs.lemmas.Bool.cases_eq g f)) refl
  is_in u same Root a = absurd (both_ways false refl a)

  -- ---- THE WORDS

  abbrev w : ℕ → ℕ
  w = words_by sh classes t

  abbrev w' : ℕ → ℕ
  w' = words_by sh classes t'

  abbrev lies : Block → Lines
  lies = lines_of sh classes t

  here : is_allocated sh t B ≡ true
  here = own.object_now v entries kept classes s header pool holds x en B p.object.object

  place_is : offset_in (lies B) ≡ off
  place_is = own.same_offset v entries kept classes s header pool holds x en B p.object.object ∙ p.object.at

  size_is : size_in w (lies B) ≡ p.object.size
  size_is = size_word v entries kept classes s header pool holds x en copy scene p.object

  many : (8 * (lies B).lines ≡ words_in v B) × (8 ≤ words_in v B)
  many = words_so v entries kept classes s header pool holds x en copy scene B p.object.object

  same_place : (C : Block) (k : ℕ) → IsObject v entries C → place_by classes C k ≡ word_place v C k
  same_place (Small c i) k y = ap (λ n. InRun c (8 * (1 + n * i) + k)) (own.same_class v entries kept classes s header pool holds x en c i y.stands)
  same_place (Big f) k y = refl
  same_place Root k y = refl

  -- where a covered word stands in the block
  record IsInside (i : ℕ) : Type 0 where
    index : (lies B).place / 8 + (i - first) ≡ i
    after : 8 ≤ i - first
    low : i - first < words_in v B
    lines : i - first < 8 * (lies B).lines
    line : (i - first) / 8 ≤ (p.object.size + 63) / 64

  inside : (i : ℕ) → IsCovered i → IsInside i
  inside i there =
      let has = covered_has_byte (off + at) (length bytes) i there in
      let below : 8 * i < off + at + length bytes = has.1 in
      let above : off + at < 8 * i + 8 = has.2 in
      let place : (lies B).place + 64 ≡ off = place_is in
      let whole : (lies B).place % 8 ≡ 0 = scene.begins B here in
      let fits : 8 + data_words (size_in w (lies B)) ≤ 8 * (lies B).lines = scene.fits B here in
      let filled = (div_ceil_times (size_in w (lies B)) 8 (omega arith)).0 in
      let within = p.inside in
      let size = size_is in
      let m = many.0 in
      record { index = omega arith; after = omega arith; low = omega arith; lines = omega arith; line = omega arith }

  abbrev cov : ℕ → Bool
  cov i = nat_lt 0 (length bytes) && (nat_lt (8 * i) (off + at + length bytes) && nat_lt (off + at) (8 * i + 8))

  cov_true : (i : ℕ) → IsCovered i → cov i ≡ true
  cov_true i there = let has = covered_has_byte (off + at) (length bytes) i there in
      and_from (nat_lt 0 (length bytes)) (nat_lt (8 * i) (off + at + length bytes) && nat_lt (off + at) (8 * i + 8)) (lt-ltb 0 (length bytes) has.0)
      (and_from (nat_lt (8 * i) (off + at + length bytes)) (nat_lt (off + at) (8 * i + 8)) (lt-ltb (8 * i) (off + at + length bytes) has.1) (lt-ltb (off + at) (8 * i + 8) has.2))

  true_cov : (i : ℕ) → cov i ≡ true → IsCovered i
  true_cov i e =
      let y = and_parts (nat_lt 0 (length bytes)) (nat_lt (8 * i) (off + at + length bytes) && nat_lt (off + at) (8 * i + 8)) e in
      let z = and_parts (nat_lt (8 * i) (off + at + length bytes)) (nat_lt (off + at) (8 * i + 8)) y.1 in
      byte_is_covered (off + at) (length bytes) i (ltb-true 0 (length bytes) y.0) (ltb-true (8 * i) (off + at + length bytes) z.0) (ltb-true (off + at) (8 * i + 8) z.1)

  -- the words before with the bytes put in
  abbrev put : ℕ → ℕ
  put i = cond (cov i) (written_word (off + at) bytes i (w i)) (w i)

  is_put : IsWritten w put (off + at) bytes
  is_put = record {
    covered = λ i there. cond-true (cov i) (written_word (off + at) bytes i (w i)) (w i) (cov_true i there);
    others = λ i never. cond-false (cov i) (written_word (off + at) bytes i (w i)) (w i) (Rattle.std.proofs.lemmas.Bool.false_from_ne_true (cov i) (λ e. never (true_cov i e)));
  }

  abbrev new : Items
  new = edited (put_into off at bytes) copy

  written : IsScene (is_allocated sh t) lies put new
  written = subst (λ o. IsScene (is_allocated sh t) lies put (edited (put_into o at bytes) copy)) place_is
      (scenes_are_written (is_allocated sh t) lies w put copy scene B at bytes here (let a = p.inside in let e = size_is in omega arith) p.are_bytes
      (subst (λ o. IsWritten w put (o + at) bytes) (sym place_is) is_put))

  -- a covered word then
  covered_now : (i : ℕ) → IsCovered i → put i ≡ w' i
  covered_now i there =
      let n = inside i there in
      let k : ℕ = i - first in
      let was : w i ≡ p.words i = ap w (sym n.index) ∙ data_known v entries kept classes s header pool holds x en B k (p.words i) p.object.size p.object.object (let m = many.1 in omega arith) n.low p.object.knows (p.knows i there) n.line in
      let now : w' i ≡ written_word (off + at) bytes i (p.words i) =
      ap w' (sym n.index) ∙ ((word_at sh classes t' (lies B) B k (is_in t' same_blocks B here) n.lines).0
      ∙ (ap (λ q. number (t' q)) (same_place B k p.object.object)
      ∙ number_is (t' (word_place v B k)) (written_word (off + at) bytes i (p.words i)) (p.small i there) (λ b few. ap (λ o. over o (s (word_place v B k) b)) (p.puts i b there few)))) in
      is_put.covered i there ∙ (ap (written_word (off + at) bytes i) was ∙ sym now)

  -- a word of no covered one stays
  other_now : (C : Block) (i k : ℕ) → is_allocated sh t C ≡ true → (lies C).place / 8 + k ≡ i → k < 8 * (lies C).lines → cov i ≡ false → put i ≡ w' i
  other_now C i k a index low none =
      let q : Place = place_by classes C k in
      let one = word_at sh classes t (lies C) C k (is_in t (λ c. refl) C a) low in
      let two = word_at sh classes t' (lies C) C k (is_in t' same_blocks C a) low in
      let stays : t' q ≡ t q = λ z b. other_bit q b (λ j there e.
      let n = inside j there in
      let there_ : word_of sh q ≡ j = ap (word_of sh) (e ∙ sym (same_place B (j - first) p.object.object))
      ∙ ((word_at sh classes t (lies B) B (j - first) (is_in t (λ c. refl) B here) n.lines).1 ∙ n.index) in
      let same : i ≡ j = sym index ∙ (sym one.1 ∙ there_) in
      both_ways (cov j) (ap cov (sym same) ∙ none) (cov_true j there)) z in
      cond-false (cov i) (written_word (off + at) bytes i (w i)) (w i) none
      ∙ (ap w (sym index) ∙ (one.0 ∙ (ap number (sym stays) ∙ (sym two.0 ∙ ap w' index))))

  agree : (C : Block) → is_allocated sh t C ≡ true → AgreeOn (ReadsBlock put (lies C)) put w'
  agree C a = record {
    same = λ i read.
        let from : (lies C).place / 8 ≤ i = read.from in
        let to : i < (lies C).place / 8 + 8 + data_words (size_in put (lies C)) = read.to in
        let room : 8 + data_words (size_in put (lies C)) ≤ 8 * (lies C).lines = written.fits C a in
        ⊎_elim
        (λ (e : cov i ≡ true). covered_now i (true_cov i e))
        (λ (e : cov i ≡ false). other_now C i (i - (lies C).place / 8) a (omega arith) (omega arith) e)
        (cases_Bool (cov i));
  }

  pub put_stands : StandIn sh classes t' new
  put_stands = scene_moved (is_allocated sh t) (is_allocated sh t') lies (lines_of sh classes t') put w' new written same_among (λ C a. same_lines C) agree

-- ---- THE OPERATIONS

module _ (v next : View) (entries entries' : List Entry) (root : Option ℕ) (ran : Ran) (tells : Tells v next ran)
    (grows : (kept : Bool) → Grows v (is_kept_by ran.operation kept) next kept) (by : IsWrite v entries next entries' root ran)
    (kept : Bool) (classes : ℕ → ℕ) (s : State) (header : Header) (pool : PoolView) (x : Agrees classes next kept s) (holds : Holds next.fixed.shape classes s header pool)
    (id : header.id ≡ next.fixed.pool) (c : Came v entries (is_kept_by ran.operation kept) classes s (plain_pool pool)) where
  abbrev old : Items
  old = copy_of v (plain_pool pool)

  abbrev tx : Transaction
  tx = tx_with v (plain_pool pool) old

  abbrev was : Bool
  was = is_kept_by ran.operation kept

  xb : Agrees classes v was s
  xb = agrees_back v next (is_kept_by ran.operation kept) kept tells.keeps (grows kept) classes s x

  hb : Holds v.fixed.shape classes s header pool
  hb = holds_before v next entries entries' root ran tells by.looks kept classes s header pool x xb holds id c

  stands : StandIn next.fixed.shape classes (bits_now next entries' s) (edited (put_into by.off by.at by.bytes) old)
  stands = subst (λ (f : Constants). StandIn f.shape classes (bits_now next entries' s) (edited (put_into by.off by.at by.bytes) old)) (sym tells.keeps.fixed)
      (put_stands v next entries entries' by.off by.at by.bytes by.puts was classes s header pool hb xb by.looks.enters old c.stands)

  unrefused : Rattle.pm_model.specs.Refusals.refusal_of ran.seen tx ran.operation ≡ None
  unrefused = first_is v next entries entries' root ran tells by.looks kept classes s header pool x xb holds id c ∙ by.unrefused

  write_done : (o : Oid) → ran.reply ≡ None → IsDone tx (Write o by.at by.bytes) kept ran.reply
  write_done o e = record { there = Rattle.std.proofs.lemmas.List.Elements.All-nil _; publishes = tt; value = e }

  pub leads : LeadsOn v entries next entries' ran kept classes s (plain_pool pool)
  leads = ⊎_elim
      (λ (y : (o : Oid) × (ran.operation ≡ Write o by.at by.bytes) × (o.off ≡ by.off) × (ran.reply ≡ None)). record {
        replies = is_done tx ran kept (ap is_inside y.1) unrefused (subst (λ op. IsDone tx op kept ran.reply) (sym y.1) (write_done y.0 y.3));
        stands = subst (StandIn next.fixed.shape classes (bits_now next entries' s))
            (sym (ap (λ op. (after_reply op ran.reply tx).items) y.1 ∙ (ap (λ r. (after_reply (Write y.0 by.at by.bytes) r tx).items) y.3 ∙ ap (λ n. edited (put_into n by.at by.bytes) old) y.2))) stands;
      })
      (λ (y : (o : Oid) × (n : ℕ) × (words : ℕ → ℕ) × (ran.operation ≡ Increment o by.at n) × (o.off ≡ by.off) × Rattle.pm_crash.specs.Looked.KnowsRange v entries by.off by.at 8 words
      × (by.bytes ≡ number_bytes ((number_of (bytes_seen words by.off by.at 8) + n) % 2 ^ 64)) × (ran.reply ≡ Some (Number ((number_of (bytes_seen words by.off by.at 8) + n) % 2 ^ 64)))).
      let read : Rattle.pm_model.specs.Items.bytes_at by.at 8 (Rattle.pm_model.specs.Items.bytes_of old by.off) ≡ bytes_seen y.2 by.off by.at 8 =
      read_is v entries by.off by.at 8 y.2 by.looks.enters y.5 was classes s header pool old xb hb c.stands in
      let sum : Rattle.pm_model.specs.Inside.incremented tx y.0.off by.at y.1 ≡ (number_of (bytes_seen y.2 by.off by.at 8) + y.1) % 2 ^ 64 =
      ap (λ m. Rattle.pm_model.specs.Inside.incremented tx m by.at y.1) y.4 ∙ ap (λ bs. (number_of bs + y.1) % 2 ^ 64) read in
      record {
        replies = is_done tx ran kept (ap is_inside y.3) unrefused (subst (λ op. IsDone tx op kept ran.reply) (sym y.3)
            (record { there = Rattle.std.proofs.lemmas.List.Elements.All-nil _; publishes = tt; value = y.7 ∙ ap (λ m. Some (Number m)) (sym sum) }));
        stands = subst (StandIn next.fixed.shape classes (bits_now next entries' s))
            (sym (ap (λ op. (after_reply op ran.reply tx).items) y.3 ∙ (ap (λ r. (after_reply (Increment y.0 by.at y.1) r tx).items) y.7
            ∙ (λ j. edited (put_into (y.4 j) by.at (number_bytes (sum j))) old) ∙ ap (λ bs. edited (put_into by.off by.at bs) old) (sym y.6)))) stands;
      })
      by.is

pub sim_writes : SimWrites
sim_writes v next entries entries' root ran sim tells may grows by = sim_goes_on v next entries entries' ran sim tells may grows
    (λ kept classes s header pool x holds id c. leads v next entries entries' root ran tells grows by kept classes s header pool x holds id c)

-- What a lane looked at is so in the copy: sizes, bytes, and with them the first refusal.
use Rattle.std.proofs.Common.{◌≡◌, ℕ, ◌+◌, ◌-◌, ◌*◌, ◌/◌, ◌%◌, ◌<◌, ◌≤◌, ◌||◌, ◌&&◌, ◌==◌, not, Bool, true, false, leb, List, [], length, map, take, drop, Option, Some, None, refl, sym, ◌∙◌, ap, subst, arith}
use Rattle.std.specs.Option.{option_map, option_map_or}
use Rattle.std.proofs.lemmas.Bool.{both_ways}
use Rattle.std.proofs.lemmas.List.{length-replicate}
use Rattle.std.proofs.lemmas.Grind.{div_ceil_times}
use Rattle.pm_words.specs.Words.{bytes_of as bytes_of_words}
use Rattle.pm_header.specs.declared.header.Header.{Header}
use Rattle.pm_layout.specs.declared.shape.Shape.{Shape}
use Rattle.pm_objects.specs.declared.calls.Operation.{Operation}
use Rattle.pm_objects.specs.declared.ids.Oid.{Oid}
use Rattle.pm_objects.specs.declared.pool.PoolView.{PoolView}
use Rattle.pm_image.specs.declared.block.Block.{Block as Lines}
use Rattle.pm_image.specs.Contents.{data_words, offset_in, size_in}
use Rattle.pm_image.proofs.Members.{map_same}
use Rattle.pm_image.proofs.Pools.{length-bytes_in}
use Rattle.pm_model.specs.Items.{Item, Items, bytes_at, bytes_of, new_item, plain_pool, size_of}
use Rattle.pm_model.specs.Refusals.{Seen, is_listed, is_not_held}
use Rattle.pm_model.specs.Transaction.{covered_words, holds}
use Rattle.pm_view.specs.Entries.{Entry}
use Rattle.pm_view.specs.Places.{Block, Small, Big, Root}
use Rattle.pm_view.specs.View.{View}
use Rattle.pm_world.specs.States.{State}
use Rattle.pm_crash.specs.Looked.{Enters, HasRoot, KnowsSizes, IsObject, KnowsRange, KnowsSize, ReadIs, RefusalIs, bytes_seen, items_seen, pool_seen, size_seen, words_in}
use Rattle.pm_crash.specs.Looks.{AreAlike}
use Rattle.pm_crash.specs.Objects.{is_allocated, item_in, lines_of}
use Rattle.pm_crash.specs.Sim.{Agrees, StandIn, bits_now, known_offset, lists_of, tx_with}
use Rattle.pm_crash.specs.Spelled.{Holds, words_by}
use Rattle.pm_crash.proofs.Classes.{run_has_lines}
use Rattle.pm_crash.proofs.Covered.{covered_has_byte}
use Rattle.pm_crash.proofs.KnownWords.{data_known, header_known}
use Rattle.pm_crash.proofs.Looks.{refusals_look}
use Rattle.pm_crash.proofs.OwnEntries.{huge_now, object_now, run_inside, same_class, same_offset, same_span}
use Rattle.pm_crash.proofs.SceneSteps.{scenes_are_read}

-- what is asked of an item alone
pub listed_in : Option Item → Bool
listed_in o = option_map_or (λ (head : ℕ). true) (option_map_or (λ (i : Item). i.list) o None) false
    || leb 1 (length (option_map_or (λ (i : Item). i.members) o []))

pub seen_unlisted : (o : Option ℕ) → listed_in (option_map (λ n. new_item 0 n None) o) ≡ false
unfolding listed_in
seen_unlisted None = refl
seen_unlisted (Some n) = refl

-- nothing that was looked at is in a list
pub seen_is_unlisted : (v : View) (off : ℕ) → is_listed (items_seen v) off ≡ false
unfolding listed_in
seen_is_unlisted v off = seen_unlisted (size_seen v off)

pub seen_size : (o : Option ℕ) (n : ℕ) → o ≡ Some n → length (option_map_or (λ (i : Item). i.bytes) (option_map (λ n. new_item 0 n None) o) []) ≡ n
seen_size o n e = ap (λ (p : Option ℕ). length (option_map_or (λ (i : Item). i.bytes) (option_map (λ n. new_item 0 n None) p) [])) e ∙ length-replicate n 0

module _ (v : View) (entries : List Entry) (kept : Bool) (classes : ℕ → ℕ) (s : State) (header : Header) (pool : PoolView)
    (holds_pool : Holds v.fixed.shape classes s header pool) (x : Agrees classes v kept s) (en : Enters v entries) (copy : Items)
    (scene : StandIn v.fixed.shape classes (bits_now v entries s) copy) where
  abbrev sh : Shape
  sh = v.fixed.shape

  abbrev now : State
  now = bits_now v entries s

  abbrev w : ℕ → ℕ
  w = words_by sh classes now

  abbrev lies : Block → Lines
  lies = lines_of sh classes now

  stands_now : (B : Block) → IsObject v entries B → is_allocated sh now B ≡ true
  stands_now = object_now v entries kept classes s header pool holds_pool x en

  offset_so : (B : Block) → IsObject v entries B → offset_in (lies B) ≡ known_offset v B
  offset_so = same_offset v entries kept classes s header pool holds_pool x en

  -- the lines of a block, as the lane knows them
  pub words_so : (B : Block) → IsObject v entries B → (8 * (lies B).lines ≡ words_in v B) × (8 ≤ words_in v B)
  words_so (Small c i) y =
      let e = same_class v entries kept classes s header pool holds_pool x en c i y.stands in
      let some = run_has_lines (classes c) i (run_inside v entries kept classes s header pool holds_pool x en c i (stands_now (Small c i) y)) in
      (omega arith, omega arith)
  words_so (Big f) y =
      let e = same_span v entries kept classes s header pool holds_pool x en f y.stands in
      let h = huge_now v entries kept classes s header pool holds_pool x en f (stands_now (Big f) y) in
      let some = h.2.some in
      let n : ℕ = Rattle.pm_world.specs.States.val (now (Rattle.pm_view.specs.Places.Descr f)) 8 56 in
      (omega arith, omega arith)
  words_so Root y = absurd (both_ways false refl y.inside)

  pub item_so : (B : Block) (off : ℕ) → IsObject v entries B → known_offset v B ≡ off → copy off ≡ Some (item_in w (lies B))
  item_so B off y at = ap copy (sym at ∙ sym (offset_so B y)) ∙ scene.has B (stands_now B y)

  pub size_word : {off : ℕ} (k : KnowsSize v entries off) → size_in w (lies k.block) ≡ k.size
  size_word k = header_known v entries kept classes s header pool holds_pool x en k.block 1 k.size k.object (omega arith) (let z = (words_so k.block k.object).1 in omega arith) k.knows

  pub size_so : (off : ℕ) (k : KnowsSize v entries off) → size_of copy off ≡ k.size
  size_so off k = ap (λ (o : Option Item). length (option_map_or (λ (i : Item). i.bytes) o [])) (item_so k.block off k.object k.at)
      ∙ (length-bytes_in w (lies k.block) ∙ size_word k)

  pub unlisted : (off : ℕ) → is_listed copy off ≡ false
  unfolding listed_in
  unlisted off = by (copy off) refl
    where
      by : (o : Option Item) → copy off ≡ o → listed_in o ≡ false
      by None e = refl
      by (Some item) e =
          let t = scene.only off item e in
          ap listed_in (sym e ∙ (ap copy t.2 ∙ scene.has t.0 t.1))

  same_id : header.id ≡ v.fixed.pool → pool.id ≡ v.fixed.pool
  same_id id = ap (λ (p : PoolView). p.id) holds_pool.is_pool ∙ id

  module _ (seen : Seen) (root : Option ℕ) (op : Operation) (id_of : header.id ≡ v.fixed.pool) (sizes : KnowsSizes v entries root op) (has_root : HasRoot v root op (plain_pool pool)) where
    held_back : (write : Bool) (id : Oid) → is_not_held (tx_with v (plain_pool pool) copy) write id ≡ false → is_not_held (tx_with v (pool_seen v root) (items_seen v)) write id ≡ false
    held_back write id e = subst (λ n. not ((id.pool == n) && holds (lists_of v) id.off write) ≡ false) (same_id id_of) e

    alike : AreAlike (lists_of v) op (plain_pool pool) (pool_seen v root) copy (items_seen v)
    unfolding listed_in
    alike = record {
      id = same_id id_of;
      lanes = ap (λ (p : PoolView). p.lanes) holds_pool.is_pool;
      zones = ap (λ (p : PoolView). p.zones) holds_pool.is_pool;
      sizes = λ id write named held stays.
          let k = sizes id write named (held_back write id held) stays in
          size_so id.off k ∙ sym (seen_size (size_seen v id.off) k.size k.seen);
      roots = λ id named held stays. has_root id named (held_back true id held) stays;
      listed = λ id named held stays. unlisted id.off ∙ sym (unlisted_seen id.off);
    }
      where
        unlisted_seen : (off : ℕ) → is_listed (items_seen v) off ≡ false
        unlisted_seen off = seen_unlisted (size_seen v off)

    pub refusal_so : Rattle.pm_model.specs.Refusals.refusal_of seen (tx_with v (plain_pool pool) copy) op ≡ Rattle.pm_crash.specs.Looked.refusal_by seen v root op
    refusal_so = refusals_look seen (lists_of v) op (plain_pool pool) (pool_seen v root) copy (items_seen v) alike

  -- ---- BYTES

  in_words : (size : ℕ) → size ≤ 8 * data_words size
  in_words size = let enough = (div_ceil_times size 8 (omega arith)).0 in omega (arith, enough)

  pub bytes_so : (off at len : ℕ) (words : ℕ → ℕ) → KnowsRange v entries off at len words → bytes_at at len (bytes_of copy off) ≡ bytes_seen words off at len
  bytes_so off at len words r =
      let k = r.object in
      let B : Block = k.block in
      let a = stands_now B k.object in
      let size : size_in w (lies B) ≡ k.size = size_word k in
      let inside : at + len ≤ size_in w (lies B) = (let z = r.inside in omega arith) in
      let place : offset_in (lies B) ≡ off = offset_so B k.object ∙ k.at in
      let fits : 8 + data_words (size_in w (lies B)) ≤ 8 * (lies B).lines = scene.fits B a in
      let whole : (lies B).place % 8 ≡ 0 = scene.begins B a in
      let many = words_so B k.object in
      let filled = in_words (size_in w (lies B)) in
      let same : map w (covered_words (offset_in (lies B) + at) len) ≡ map words (covered_words (off + at) len) =
      ap (λ o. map w (covered_words (o + at) len)) place
      ∙ map_same w words (covered_words (off + at) len) (λ i there.
      let has = covered_has_byte (off + at) len i there in
      let below : 8 * i < off + at + len = has.1 in
      let above : off + at < 8 * i + 8 = has.2 in
      let n : ℕ = i - (off / 8 - 8) in
      let is : (lies B).place / 8 + n ≡ i = omega arith in
      sym (ap w is) ∙ data_known v entries kept classes s header pool holds_pool x en B n (words i) k.size k.object (omega arith) (omega arith) k.knows (r.knows i there) (omega arith)) in
      ap (λ (o : Option Item). bytes_at at len (option_map_or (λ (i : Item). i.bytes) o [])) (item_so B off k.object k.at)
      ∙ (scenes_are_read (is_allocated sh now) lies w copy scene B at len a inside
      ∙ ap (λ (ws : List ℕ). take len (drop (at % 8) (bytes_of_words ws))) same)

pub refusal_is : RefusalIs
refusal_is v entries seen root op en sizes kept classes s header pool copy x holds_pool id scene has_root =
    refusal_so v entries kept classes s header pool holds_pool x en copy scene seen root op id sizes has_root

pub read_is : ReadIs
read_is v entries off at len words en range kept classes s header pool copy x holds_pool scene =
    bytes_so v entries kept classes s header pool holds_pool x en copy scene off at len words range

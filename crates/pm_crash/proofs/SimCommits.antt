-- A commit sets its words in the copy and in the bits as the call has made them.
use Rattle.std.proofs.Common.{◌≡◌, ◌≢◌, ◌⊎◌, ⊎_elim, ℕ, ◌+◌, ◌-◌, ◌*◌, ◌/◌, ◌%◌, ◌<◌, ◌≤◌, nat_lt, nat_le, leb, ◌&&◌, not, Bool, true, false, cond, List, [], ◌∷◌, map, length, Option, Some, None, refl, sym, ◌∙◌, ap, subst, arith}
use Rattle.std.specs.List.{Contains, list_any, range_with_len}
use Rattle.std.specs.Option.{option_map}
use Rattle.std.proofs.lemmas.Bool.{and_from, and_parts, both_ways, cases_Bool, cases_eq, cond-false, cond-true, false_from_ne_true, le-leb, lt-ltb, ltb-true, or_left, or_right, or_parts}
use Rattle.std.proofs.lemmas.Grind.{div_ceil_times}
use Rattle.pm_words.specs.Words.{AreBytes}
use Rattle.pm_header.specs.declared.header.Header.{Header}
use Rattle.pm_layout.specs.Chunks.{chunks_of, line_of_chunk}
use Rattle.pm_layout.specs.Sizes.{blocks_of}
use Rattle.pm_layout.specs.declared.shape.Shape.{Shape}
use Rattle.pm_objects.specs.declared.pool.PoolView.{PoolView}
use Rattle.pm_image.specs.declared.block.Block.{Block as Lines}
use Rattle.pm_image.specs.Blocks.{chunk_word}
use Rattle.pm_image.specs.Contents.{data_words, offset_in, size_in}
use Rattle.pm_image.specs.Reads.{AgreeOn, ReadsBlock}
use Rattle.pm_image.proofs.Members.{first_member, later_member}
use Rattle.pm_model.specs.Items.{Item, Items, all_edited, edited, put_into}
use Rattle.pm_model.specs.Pending.{SetWord, set_edit, set_edits}
use Rattle.pm_model.specs.Transaction.{covered_words}
use Rattle.pm_crash.specs.Scenes.{AreApart, IsScene}
use Rattle.pm_crash.specs.SimCommits.{Setting, is_put_in, is_word_set, set_all, set_bytes, set_one, set_place}
use Rattle.pm_crash.specs.Writes.{IsWritten, written_word}
use Rattle.pm_objects.specs.declared.calls.Operation.TheVariants.{Commit}
use Rattle.pm_model.specs.Inside.{IsDone, Ran, after_reply, is_inside, is_kept_by}
use Rattle.pm_model.specs.Items.{plain_pool}
use Rattle.pm_model.specs.Refusals.{refusal_of}
use Rattle.pm_model.specs.Transaction.{Transaction, committed, idle, is_none}
use Rattle.pm_model.specs.declared.stage.Stage.TheVariants as stage
use Rattle.pm_view.specs.Claims.{class}
use Rattle.pm_view.specs.Entries.{Entry, turn}
use Rattle.pm_view.specs.Places.{Place, InRun, Descr, Block, Small, Big, Root, word_of}
use Rattle.pm_view.specs.View.{Constants, View}
use Rattle.pm_world.specs.Lanes.{is_occupancy}
use Rattle.pm_world.specs.States.{State, Diff, over, val}
use Rattle.pm_crash.specs.Answers.{has_block, offset_by}
use Rattle.pm_crash.specs.Footprints.{has_found}
use Rattle.pm_crash.specs.HeapChanges.{Frees}
use Rattle.pm_crash.specs.Looked.{Enters, IsObject, KnowsWord, word_place, words_in}
use Rattle.pm_crash.specs.Objects.{is_allocated, lines_of}
use Rattle.pm_crash.specs.OwnBlocks.{own_span}
use Rattle.pm_crash.specs.Sim.{Agrees, Came, Grows, LeadsOn, StandIn, Tells, bits_now, change_so_far, copy_of, is_kept_block, known_offset, lists_of, tx_with}
use Rattle.pm_crash.specs.SimCommits.{CanSet, HasSomeLine, IsCommit, WasFreed, IsSetIn, SetsWords, Settles, SimCommits, index_of}
use Rattle.pm_crash.specs.Spelled.{Holds, has_blocks, number, words_by}
use Rattle.pm_crash.proofs.ChangedHeaps.{next_times}
use Rattle.pm_crash.proofs.Classes.{run_has_lines}
use Rattle.pm_crash.proofs.GoodBits.{held_good}
use Rattle.pm_crash.proofs.KnownWords.{data_known, header_known}
use Rattle.pm_crash.proofs.Missing.{offsets_apart}
use Rattle.pm_crash.proofs.NoHeapFault.{member_passes, passing_member}
use Rattle.pm_crash.proofs.NowBlocks as blocks
use Rattle.pm_crash.proofs.OwnEntries as own
use Rattle.pm_crash.proofs.OwnEntries.{kept_is_own, kept_more}
use Rattle.pm_crash.proofs.SceneMoves.{BigIn, IsIn, SmallIn, place_by, scene_moved, word_at}
use Rattle.pm_crash.proofs.SimOps.{first_is, holds_before, is_done}
use Rattle.pm_crash.proofs.SimWrites.{not_bitmap, not_descriptor}
use Rattle.pm_crash.proofs.Simulation.{agrees_back, sim_goes_on}
use Rattle.pm_crash.proofs.Spelling.{number_is}
use Rattle.pm_crash.proofs.Covered.{byte_is_covered, covered_has_byte}
use Rattle.pm_crash.proofs.SceneSteps.{scenes_are_written}

-- ---- WHICH WORDS ARE SET

set_parts : (i : ℕ) (p : Setting) → is_word_set i p ≡ true → (is_put_in p.block ≡ true) × (0 < length (set_bytes p)) × (8 * i < set_place p + length (set_bytes p)) × (set_place p < 8 * i + 8)
set_parts i p e =
    let a = and_parts (is_put_in p.block) (nat_lt 0 (length (set_bytes p)) && (nat_lt (8 * i) (set_place p + length (set_bytes p)) && nat_lt (set_place p) (8 * i + 8))) e in
    let b = and_parts (nat_lt 0 (length (set_bytes p))) (nat_lt (8 * i) (set_place p + length (set_bytes p)) && nat_lt (set_place p) (8 * i + 8)) a.1 in
    let c = and_parts (nat_lt (8 * i) (set_place p + length (set_bytes p))) (nat_lt (set_place p) (8 * i + 8)) b.1 in
    (a.0, ltb-true 0 (length (set_bytes p)) b.0, ltb-true (8 * i) (set_place p + length (set_bytes p)) c.0, ltb-true (set_place p) (8 * i + 8) c.1)

covered_set : (i : ℕ) (p : Setting) → is_put_in p.block ≡ true → Contains (covered_words (set_place p) (length (set_bytes p))) i → is_word_set i p ≡ true
covered_set i p put there =
    let has = covered_has_byte (set_place p) (length (set_bytes p)) i there in
    and_from (is_put_in p.block) (nat_lt 0 (length (set_bytes p)) && (nat_lt (8 * i) (set_place p + length (set_bytes p)) && nat_lt (set_place p) (8 * i + 8))) put
    (and_from (nat_lt 0 (length (set_bytes p))) (nat_lt (8 * i) (set_place p + length (set_bytes p)) && nat_lt (set_place p) (8 * i + 8)) (lt-ltb 0 (length (set_bytes p)) has.0)
    (and_from (nat_lt (8 * i) (set_place p + length (set_bytes p))) (nat_lt (set_place p) (8 * i + 8)) (lt-ltb (8 * i) (set_place p + length (set_bytes p)) has.1) (lt-ltb (set_place p) (8 * i + 8) has.2)))

-- ---- A SCENE WHOSE WORDS ARE SET, one after another

module _ (among : Block → Bool) (lies : Block → Lines) where
  in_words : (size : ℕ) → size ≤ 8 * data_words size
  in_words size = let enough = (div_ceil_times size 8 (omega arith)).0 in omega (arith, enough)

  -- a setting in the object in a block
  pub record Sets (w : ℕ → ℕ) (p : Setting) (B : Block) : Type 0 where
    pub stands : among B ≡ true
    pub at : offset_in (lies B) ≡ p.set.id.off
    pub inside : p.set.off + length (set_bytes p) ≤ size_in w (lies B)
    pub are_bytes : AreBytes (set_bytes p)

  abbrev Fits : (ℕ → ℕ) → Items → Setting → Option Block → Type 0
  Fits w items p None = items p.set.id.off ≡ None
  Fits w items p (Some B) = Sets w p B

  module _ (w : ℕ → ℕ) (items : Items) (x : IsScene among lies w items) (p : Setting) (B : Block) (is : p.block ≡ Some B) (y : Sets w p B) where
    abbrev set_to : ℕ → ℕ
    set_to i = set_one i p (w i)

    put_in : is_put_in p.block ≡ true
    put_in = ap is_put_in is

    is_written : IsWritten w set_to (set_place p) (set_bytes p)
    is_written = record {
      covered = λ i there. cond-true (is_word_set i p) (written_word (set_place p) (set_bytes p) i (w i)) (w i) (covered_set i p put_in there);
      others = λ i never. cond-false (is_word_set i p) (written_word (set_place p) (set_bytes p) i (w i)) (w i)
          (false_from_ne_true (is_word_set i p) (λ e. let t = set_parts i p e in never (byte_is_covered (set_place p) (length (set_bytes p)) i t.1 t.2 t.3)));
    }

    set_here : IsScene among lies set_to (edited (set_edit p.set) items)
    set_here = subst (λ o. IsScene among lies set_to (edited (put_into o p.set.off (set_bytes p)) items)) y.at
        (scenes_are_written among lies w set_to items x B p.set.off (set_bytes p) y.stands y.inside y.are_bytes
        (subst (λ o. IsWritten w set_to (o + p.set.off) (set_bytes p)) (sym y.at) is_written))

    -- no header is set
    header_same : (C : Block) → among C ≡ true → size_in set_to (lies C) ≡ size_in w (lies C)
    header_same C c = cond-false (is_word_set ((lies C).place / 8 + 1) p) (written_word (set_place p) (set_bytes p) ((lies C).place / 8 + 1) (w ((lies C).place / 8 + 1))) (w ((lies C).place / 8 + 1))
        (false_from_ne_true (is_word_set ((lies C).place / 8 + 1) p) (λ e.
        let t = set_parts ((lies C).place / 8 + 1) p e in
        let below = t.2 in
        let above = t.3 in
        let at : (lies B).place + 64 ≡ p.set.id.off = y.at in
        let within = y.inside in
        let fits : 8 + data_words (size_in w (lies B)) ≤ 8 * (lies B).lines = x.fits B y.stands in
        let room : 8 + data_words (size_in w (lies C)) ≤ 8 * (lies C).lines = x.fits C c in
        let filled = in_words (size_in w (lies B)) in
        let whole : (lies B).place % 8 ≡ 0 = x.begins B y.stands in
        let whole_ : (lies C).place % 8 ≡ 0 = x.begins C c in
        ⊎_elim
        (λ (q : B ≡ C). let z : (lies B).place ≡ (lies C).place = ap (λ D. (lies D).place) q in omega arith)
        (λ (z : AreApart (lies B) (lies C)). ⊎_elim
        (λ (u : (lies B).place + 64 * (lies B).lines ≤ (lies C).place). omega arith)
        (λ (u : (lies C).place + 64 * (lies C).lines ≤ (lies B).place). omega arith) z)
        (x.apart B C y.stands c)))

  -- what is nowhere stays so
  none_put : (off at : ℕ) (bytes : List ℕ) (items : Items) (o : ℕ) → items o ≡ None → edited (put_into off at bytes) items o ≡ None
  none_put off at bytes items o e = by (Rattle.std.specs.Prelude.◌==◌ off o)
    where
      f : Item → Item
      f = λ (i : Item). record i { bytes = Rattle.pm_model.specs.Items.put_bytes at bytes i.bytes }

      by : (b : Bool) → cond b (option_map f (items o)) (items o) ≡ None
      by true = ap (option_map f) e
      by false = e

  none_changes : (off at : ℕ) (bytes : List ℕ) (items : Items) → items off ≡ None → edited (put_into off at bytes) items ≡ items
  none_changes off at bytes items e = λ j o. one o j
    where
      f : Item → Item
      f = λ (i : Item). record i { bytes = Rattle.pm_model.specs.Items.put_bytes at bytes i.bytes }

      one : (o : ℕ) → edited (put_into off at bytes) items o ≡ items o
      one o = ⊎_elim
          (λ (t : Rattle.std.specs.Prelude.◌==◌ off o ≡ true).
          let same = Rattle.std.proofs.lemmas.Bool.eqb-true off o t in
          let here : items o ≡ None = ap items (sym same) ∙ e in
          cond-true (Rattle.std.specs.Prelude.◌==◌ off o) (option_map f (items o)) (items o) t ∙ (ap (option_map f) here ∙ sym here))
          (λ (t : Rattle.std.specs.Prelude.◌==◌ off o ≡ false). cond-false (Rattle.std.specs.Prelude.◌==◌ off o) (option_map f (items o)) (items o) t)
          (cases_Bool (Rattle.std.specs.Prelude.◌==◌ off o))

  abbrev SetAll : List Setting → (ℕ → ℕ) → Items → Type 0
  SetAll settings w items = IsScene among lies (λ i. set_all i settings (w i)) (all_edited (set_edits (map (λ (p : Setting). p.set) settings)) items)

  abbrev AllFit : List Setting → (ℕ → ℕ) → Items → Type 0
  AllFit settings w items = (p : Setting) → Contains settings p → (o : Option Block) → p.block ≡ o → Fits w items p o

  still : (w : ℕ → ℕ) (items : Items) (x : IsScene among lies w items) (p : Setting) (B : Block) (is : p.block ≡ Some B) (y : Sets w p B) (q : Setting) (o : Option Block) → Fits w items q o
      → Fits (λ i. set_one i p (w i)) (edited (set_edit p.set) items) q o
  still w items x p B is y q None none = none_put p.set.id.off p.set.off (set_bytes p) items q.set.id.off none
  still w items x p B is y q (Some C) z = record { stands = z.stands; at = z.at; inside = subst (λ n. q.set.off + length (set_bytes q) ≤ n) (sym (header_same w items x p B is y C z.stands)) z.inside; are_bytes = z.are_bytes }

  set_next : (p : Setting) (settings : List Setting) (w : ℕ → ℕ) (items : Items) → IsScene among lies w items
      → ((u : ℕ → ℕ) (its : Items) → IsScene among lies u its → AllFit settings u its → SetAll settings u its)
      → AllFit settings w items → (o : Option Block) → p.block ≡ o → Fits w items p o
      → SetAll settings (λ i. set_one i p (w i)) (edited (set_edit p.set) items)
  set_next p settings w items x rest fits None is none =
      let unset : (i : ℕ) → set_one i p (w i) ≡ w i = λ i. ap (λ b. cond (is_put_in b && (nat_lt 0 (length (set_bytes p)) && (nat_lt (8 * i) (set_place p + length (set_bytes p)) && nat_lt (set_place p) (8 * i + 8))))
      (written_word (set_place p) (set_bytes p) i (w i)) (w i)) is in
      subst (λ (u : ℕ → ℕ). SetAll settings u (edited (set_edit p.set) items)) (λ j i. sym (unset i) j)
      (subst (λ (its : Items). SetAll settings w its) (sym (none_changes p.set.id.off p.set.off (set_bytes p) items none)) (rest w items x fits))
  set_next p settings w items x rest fits (Some B) is y = rest (λ i. set_one i p (w i)) (edited (set_edit p.set) items) (set_here w items x p B is y)
      (λ q there o e. still w items x p B is y q o (fits q there o e))

  pub sets_stand : (settings : List Setting) (w : ℕ → ℕ) (items : Items) → IsScene among lies w items → AllFit settings w items → SetAll settings w items
  unfolding set_all all_edited
  sets_stand [] w items x fits = x
  sets_stand (p ∷ settings) w items x fits = set_next p settings w items x (λ u its y z. sets_stand settings u its y z)
      (λ q there o e. fits q (later_member p settings q there) o e) p.block refl (fits p (first_member p settings) p.block refl)

-- ---- A COMMIT

-- where no setting has a word, it stays
set_none : (i : ℕ) (settings : List Setting) (x : ℕ) → list_any (is_word_set i) settings ≡ false → set_all i settings x ≡ x
unfolding set_all
set_none i [] x e = refl
set_none i (p ∷ settings) x e =
    let t = or_parts (is_word_set i p) (list_any (is_word_set i) settings) e in
    set_none i settings (set_one i p x) t.1 ∙ cond-false (is_word_set i p) (written_word (set_place p) (set_bytes p) i x) x t.0

block_in : (o : Option Block) → is_put_in o ≡ true → (B : Block) × (o ≡ Some B)
block_in None e = absurd (both_ways false refl e)
block_in (Some B) e = (B, refl)

-- a block stands as well in other bits, where the same chunks have blocks
in_other : (sh : Shape) (classes : ℕ → ℕ) (u u' : State) (l : Lines) (C : Block) → IsIn sh classes u l C → ((c : ℕ) → has_blocks u' c ≡ has_blocks u c) → IsIn sh classes u' l C
in_other sh classes u u' l C (SmallIn c i a b h e) same = SmallIn c i a b (same c ∙ h) e
in_other sh classes u u' l C (BigIn f n a z h e) same = BigIn f n a z (λ g from to. same g ∙ h g from to) e

module _ (v next : View) (entries entries' : List Entry) (settings : List Setting) (p : SetsWords v entries next entries' settings)
    (kept : Bool) (classes : ℕ → ℕ) (s : State) (header : Header) (pool : PoolView) (holds : Holds v.fixed.shape classes s header pool) (x : Agrees classes v kept s) (en : Enters v entries)
    (copy : Items) (scene : StandIn v.fixed.shape classes (bits_now v entries s) copy) where
  abbrev sh : Shape
  sh = v.fixed.shape

  abbrev d : Diff
  d = change_so_far v entries

  abbrev t : State
  t = bits_now v entries s

  abbrev t' : State
  t' = bits_now next entries' s

  abbrev w : ℕ → ℕ
  w = words_by sh classes t

  abbrev w' : ℕ → ℕ
  w' = words_by sh classes t'

  abbrev lies : Block → Lines
  lies = lines_of sh classes t

  -- ---- WHAT WAS FREED IS NOWHERE

  gone_not : (off : ℕ) (g : WasFreed v entries off) → is_allocated sh t g.block ≡ false
  gone_not off g = own.before_now v entries kept classes s header pool holds x en g.block g.inside ∙ ⊎_elim
      (λ (f : (has_found v g.block ≡ true) × Frees d g.block). ap (λ y. over y (is_allocated sh s g.block)) f.1)
      (λ (o : (is_kept_block v false g.block ≡ true) × (turn d g.block ≡ None) × HasSomeLine v g.block).
      ap (λ y. over y (is_allocated sh s g.block)) o.1 ∙ own_none g.block g.inside o.0 o.2)
      g.gone
    where
      own_none : (B : Block) → is_occupancy sh B ≡ true → is_kept_block v false B ≡ true → HasSomeLine v B → is_allocated sh s B ≡ false
      own_none (Small c i) o k l = false_from_ne_true (is_allocated sh s (Small c i)) (λ a.
          let y = and_parts (is_occupancy sh (Small c i)) (s (InRun c 0) i) a in
          let z = and_parts (nat_lt c (chunks_of sh)) (nat_lt i 64) y.0 in
          let more = kept_more v kept (Small c i) k in
          let e : classes c ≡ class v.claims c = x.class c i (or_right (has_found v (Small c i)) (is_kept_block v kept (Small c i)) more) in
          let some = run_has_lines (classes c) i ((held_good sh classes s header pool holds).runs c i (ltb-true c (chunks_of sh) z.0) (ltb-true i 64 z.1) y.1) in
          let m : ℕ = class v.claims c * i in
          let m' : ℕ = classes c * i in
          let next_ = next_times (class v.claims c) i in
          let next' = next_times (classes c) i in
          let em : classes c * i ≡ class v.claims c * i = ap (λ n. n * i) e in
          x.apart (Small c i) (Small c i) (line_of_chunk sh c + 1 + class v.claims c * i) more
          (record { mine = kept_is_own v false (Small c i) k; has = record { from = omega arith; to = omega arith } })
          (record { allocated = y.1; has = record { from = omega arith; to = omega arith } }))
      own_none (Big f) o k l = false_from_ne_true (is_allocated sh s (Big f)) (λ a.
          let y = and_parts (nat_lt f (chunks_of sh)) (not (has_blocks s f) && s (Descr f) 1) a in
          let z = and_parts (not (has_blocks s f)) (s (Descr f) 1) y.1 in
          let some = ((held_good sh classes s header pool holds).whole f (ltb-true f (chunks_of sh) y.0) (Rattle.std.proofs.lemmas.Bool.not-true (has_blocks s f) z.0) z.1).some in
          let n : ℕ = val (s (Descr f)) 8 56 in
          let l_ : 1 ≤ own_span v f = l in
          x.apart (Big f) (Big f) (line_of_chunk sh f) (kept_more v kept (Big f) k)
          (record { mine = kept_is_own v false (Big f) k; has = (f, and_from (nat_le f f) (nat_lt f (f + own_span v f)) (le-leb f f (omega arith)) (lt-ltb f (f + own_span v f) (omega arith)), record { from = omega arith; to = omega arith }) })
          (record { allocated = z.1; has = (f, and_from (nat_le f f) (nat_lt f (f + n)) (le-leb f f (omega arith)) (lt-ltb f (f + n) (omega arith)), record { from = omega arith; to = omega arith }) }))
      own_none Root o k l = absurd (both_ways false refl o)

  gone_class : (c i : ℕ) → (((has_found v (Small c i) ≡ true) × Frees d (Small c i)) ⊎ ((is_kept_block v false (Small c i) ≡ true) × (turn d (Small c i) ≡ None) × HasSomeLine v (Small c i))) → classes c ≡ class v.claims c
  gone_class c i g = x.class c i (⊎_elim
      (λ (f : (has_found v (Small c i) ≡ true) × Frees d (Small c i)). or_left (has_found v (Small c i)) (is_kept_block v kept (Small c i)) f.0)
      (λ (o : (is_kept_block v false (Small c i) ≡ true) × (turn d (Small c i) ≡ None) × HasSomeLine v (Small c i)). or_right (has_found v (Small c i)) (is_kept_block v kept (Small c i)) (kept_more v kept (Small c i) o.0)) g)

  gone_place : (B : Block) → is_occupancy sh B ≡ true → ((c i : ℕ) → B ≡ Small c i → i < blocks_of (class v.claims c))
      → (((has_found v B ≡ true) × Frees d B) ⊎ ((is_kept_block v false B ≡ true) × (turn d B ≡ None) × HasSomeLine v B))
      → (has_block sh classes B ≡ true) × (offset_by sh classes B ≡ known_offset v B)
  gone_place (Small c i) o index g =
      let e = gone_class c i g in
      let m : ℕ = class v.claims c * i in (
        and_from (nat_lt c (chunks_of sh)) (nat_lt i (blocks_of (classes c))) (and_parts (nat_lt c (chunks_of sh)) (nat_lt i 64) o).0
            (lt-ltb i (blocks_of (classes c)) (subst (λ n. i < blocks_of n) (sym e) (index c i refl))),
        ap (λ n. 8 * chunk_word sh.lanes c + 64 * (1 + n * i) + 64) e
            ∙ (let z : 8 * chunk_word sh.lanes c + 64 * (1 + m) + 64 ≡ 64 * (line_of_chunk sh c + (1 + m)) + 64 = omega arith in z),
      )
  gone_place (Big f) o index g = (o, omega arith)
  gone_place Root o index g = absurd (both_ways false refl o)

  stands_place : (C : Block) → is_allocated sh t C ≡ true → (has_block sh classes C ≡ true) × (offset_by sh classes C ≡ offset_in (lies C))
  stands_place (Small c i) a = (
    and_from (nat_lt c (chunks_of sh)) (nat_lt i (blocks_of (classes c)))
        (and_parts (nat_lt c (chunks_of sh)) (nat_lt i 64) (and_parts (is_occupancy sh (Small c i)) (t (InRun c 0) i) a).0).0
        (lt-ltb i (blocks_of (classes c)) (own.run_inside v entries kept classes s header pool holds x en c i a)),
    refl,
  )
  stands_place (Big f) a = ((and_parts (nat_lt f (chunks_of sh)) (not (has_blocks t f) && t (Descr f) 1) a).0, refl)
  stands_place Root a = absurd (both_ways false refl a)

  gone_none : (off : ℕ) → WasFreed v entries off → copy off ≡ None
  gone_none off g = by (copy off) refl
    where
      by : (o : Option Item) → copy off ≡ o → o ≡ None
      by None e = refl
      by (Some item) e =
          let y = scene.only off item e in
          let C : Block = y.0 in
          let here = stands_place C y.1 in
          let was = gone_place g.block g.inside g.index g.gone in
          let same : C ≡ g.block = offsets_apart sh classes C g.block here.0 was.0 (here.1 ∙ (sym y.2 ∙ (sym g.at ∙ sym was.1))) in
          absurd (both_ways (is_allocated sh t g.block) (gone_not off g) (subst (λ D. is_allocated sh t D ≡ true) same y.1))

  -- ---- NO BLOCK COMES, GOES OR MOVES

  other_bit : (q : Place) (b : ℕ) → ((B : Block) (i : ℕ) → IsSetIn settings B i → q ≢ word_place v B (index_of v B i)) → t' q b ≡ t q b
  other_bit q b ne = ap (λ o. over o (s q b)) (p.others q b ne)

  same_bitmap : (c : ℕ) → t' (InRun c 0) ≡ t (InRun c 0)
  same_bitmap c = λ j b. other_bit (InRun c 0) b (λ B i there. not_bitmap v B c (index_of v B i)) j

  same_descriptor : (c : ℕ) → t' (Descr c) ≡ t (Descr c)
  same_descriptor c = λ j b. other_bit (Descr c) b (λ B i there. not_descriptor v B c (index_of v B i)) j

  same_blocks : (c : ℕ) → has_blocks t' c ≡ has_blocks t c
  same_blocks c = ap (λ w. list_any w (range_with_len 0 64)) (same_bitmap c)

  same_among : (C : Block) → is_allocated sh t' C ≡ is_allocated sh t C
  same_among (Small c i) = ap (λ w. is_occupancy sh (Small c i) && w i) (same_bitmap c)
  same_among (Big f) = let h = same_blocks f in let e = same_descriptor f in λ j. nat_lt f (chunks_of sh) && (not (h j) && e j 1)
  same_among Root = refl

  same_lines : (C : Block) → lines_of sh classes t' C ≡ lies C
  same_lines (Small c i) = refl
  same_lines (Big f) = ap (λ w. record { place = 8 * chunk_word sh.lanes f; lines = 64 * val w 8 56 }) (same_descriptor f)
  same_lines Root = refl

  -- ---- THE WORDS

  can : (B : Block) (i : ℕ) (y : IsSetIn settings B i) → CanSet v entries y.setting.set B
  can B i y = subst (λ o. Settles v entries y.setting.set o) y.block (p.each y.setting y.among)

  here : (B : Block) → IsObject v entries B → is_allocated sh t B ≡ true
  here = own.object_now v entries kept classes s header pool holds x en

  place_is : (B : Block) → IsObject v entries B → offset_in (lies B) ≡ known_offset v B
  place_is = own.same_offset v entries kept classes s header pool holds x en

  many : (B : Block) → IsObject v entries B → (8 * (lies B).lines ≡ words_in v B) × (8 ≤ words_in v B)
  many = blocks.lines_so v entries kept classes s header pool holds x en

  size_is : (B : Block) (n : ℕ) → IsObject v entries B → KnowsWord v entries B 1 n → size_in w (lies B) ≡ n
  size_is B n y k = header_known v entries kept classes s header pool holds x en B 1 n y (omega arith) (let z = (many B y).1 in omega arith) k

  record IsInside (B : Block) (i size : ℕ) : Type 0 where
    index : (lies B).place / 8 + index_of v B i ≡ i
    low : index_of v B i < words_in v B
    lines : index_of v B i < 8 * (lies B).lines
    line : index_of v B i / 8 ≤ (size + 63) / 64

  inside : (B : Block) (i : ℕ) (y : IsSetIn settings B i) → IsInside B i (can B i y).size
  inside B i y =
      let c = can B i y in
      let has = set_parts i y.setting y.covers in
      let below : 8 * i < y.setting.set.id.off + y.setting.set.off + length (set_bytes y.setting) = has.2 in
      let above : y.setting.set.id.off + y.setting.set.off < 8 * i + 8 = has.3 in
      let known : known_offset v B ≡ y.setting.set.id.off = c.at in
      let place : (lies B).place + 64 ≡ known_offset v B = place_is B c.object in
      let whole : (lies B).place % 8 ≡ 0 = scene.begins B (here B c.object) in
      let fits : 8 + data_words (size_in w (lies B)) ≤ 8 * (lies B).lines = scene.fits B (here B c.object) in
      let filled = (div_ceil_times (size_in w (lies B)) 8 (omega arith)).0 in
      let within = c.inside in
      let size = size_is B c.size c.object c.sized in
      let m = (many B c.object).0 in
      record { index = omega arith; low = omega arith; lines = omega arith; line = omega arith }

  is_in' : (C : Block) → is_allocated sh t C ≡ true → IsIn sh classes t' (lies C) C
  is_in' C a = in_other sh classes t t' (lies C) C (blocks.is_in v entries kept classes s header pool holds x en C a) same_blocks

  abbrev put : ℕ → ℕ
  put i = set_all i settings (w i)

  fits : (q : Setting) → Contains settings q → (o : Option Block) → q.block ≡ o → Fits (is_allocated sh t) lies w copy q o
  fits q there None e = gone_none q.set.id.off (subst (λ o. Settles v entries q.set o) e (p.each q there))
  fits q there (Some B) e =
      let c = subst (λ o. Settles v entries q.set o) e (p.each q there) in
      record {
        stands = here B c.object;
        at = place_is B c.object ∙ c.at;
        inside = (let a = c.inside in let z = size_is B c.size c.object c.sized in omega arith);
        are_bytes = p.are_bytes q there;
      }

  abbrev new : Items
  new = all_edited (set_edits (map (λ (q : Setting). q.set) settings)) copy

  written : IsScene (is_allocated sh t) lies put new
  written = sets_stand (is_allocated sh t) lies settings w copy scene fits

  covered_now : (B : Block) (i : ℕ) → IsSetIn settings B i → put i ≡ w' i
  covered_now B i y =
      let c = can B i y in
      let n = inside B i y in
      let k : ℕ = index_of v B i in
      let was : w i ≡ p.words i = ap w (sym n.index) ∙ data_known v entries kept classes s header pool holds x en B k (p.words i) c.size c.object (let m = (many B c.object).1 in omega arith) n.low c.sized (p.knows B i y) n.line in
      let now : w' i ≡ set_all i settings (p.words i) =
      ap w' (sym n.index) ∙ ((word_at sh classes t' (lies B) B k (is_in' B (here B c.object)) n.lines).0
      ∙ (ap (λ q. number (t' q)) (blocks.place_so v entries kept classes s header pool holds x en B k c.object)
      ∙ number_is (t' (word_place v B k)) (set_all i settings (p.words i)) (p.small B i y) (λ b few. ap (λ o. over o (s (word_place v B k) b)) (p.puts B i b y few)))) in
      ap (set_all i settings) was ∙ sym now

  other_now : (C : Block) (i k : ℕ) → is_allocated sh t C ≡ true → (lies C).place / 8 + k ≡ i → k < 8 * (lies C).lines → list_any (is_word_set i) settings ≡ false → put i ≡ w' i
  other_now C i k a index low none =
      let q : Place = place_by classes C k in
      let one = word_at sh classes t (lies C) C k (blocks.is_in v entries kept classes s header pool holds x en C a) low in
      let two = word_at sh classes t' (lies C) C k (is_in' C a) low in
      let stays : t' q ≡ t q = λ z b. other_bit q b (λ B j y e.
      let c = can B j y in
      let n = inside B j y in
      let there_ : word_of sh q ≡ j = ap (word_of sh) (e ∙ sym (blocks.place_so v entries kept classes s header pool holds x en B (index_of v B j) c.object))
      ∙ ((word_at sh classes t (lies B) B (index_of v B j) (blocks.is_in v entries kept classes s header pool holds x en B (here B c.object)) n.lines).1 ∙ n.index) in
      let same : i ≡ j = sym index ∙ (sym one.1 ∙ there_) in
      both_ways (list_any (is_word_set j) settings) (ap (λ m. list_any (is_word_set m) settings) (sym same) ∙ none) (member_passes (is_word_set j) settings y.setting y.among y.covers)) z in
      set_none i settings (w i) none
      ∙ (ap w (sym index) ∙ (one.0 ∙ (ap number (sym stays) ∙ (sym two.0 ∙ ap w' index))))

  agree : (C : Block) → is_allocated sh t C ≡ true → AgreeOn (ReadsBlock put (lies C)) put w'
  agree C a = record {
    same = λ i read.
        let from : (lies C).place / 8 ≤ i = read.from in
        let to : i < (lies C).place / 8 + 8 + data_words (size_in put (lies C)) = read.to in
        let room : 8 + data_words (size_in put (lies C)) ≤ 8 * (lies C).lines = written.fits C a in
        ⊎_elim
        (λ (e : list_any (is_word_set i) settings ≡ true).
        let m = passing_member (is_word_set i) settings e in
        let b = block_in m.0.block (set_parts i m.0 m.1.1).0 in
        covered_now b.0 i (record { setting = m.0; among = m.1.0; block = b.1; covers = m.1.1 }))
        (λ (e : list_any (is_word_set i) settings ≡ false). other_now C i (i - (lies C).place / 8) a (omega arith) (omega arith) e)
        (cases_Bool (list_any (is_word_set i) settings));
  }

  pub sets_now : StandIn sh classes t' new
  sets_now = scene_moved (is_allocated sh t) (is_allocated sh t') lies (lines_of sh classes t') put w' new written same_among (λ C a. same_lines C) agree

-- ---- THE OPERATION

-- what an ended level leaves of the copy
ended_items : (b : Bool) (tx : Transaction)
    → (cond b (record (idle tx.before tx.pending) { items = all_edited (set_edits tx.sets) tx.items })
    (record (committed tx) { level = tx.level - 1; stage = cond (is_none tx.error) stage.Work stage.OnAbort })).items
    ≡ all_edited (set_edits (cond b tx.sets [])) tx.items
unfolding all_edited
ended_items true tx = refl
ended_items false tx = refl

module _ (v next : View) (entries entries' : List Entry) (root : Option ℕ) (ran : Ran) (tells : Tells v next ran)
    (grows : (kept : Bool) → Grows v (is_kept_by ran.operation kept) next kept) (by : IsCommit v entries next entries' root ran)
    (kept : Bool) (classes : ℕ → ℕ) (s : State) (header : Header) (pool : PoolView) (x : Agrees classes next kept s) (holds : Holds next.fixed.shape classes s header pool)
    (id : header.id ≡ next.fixed.pool) (c : Came v entries (is_kept_by ran.operation kept) classes s (plain_pool pool)) where
  abbrev old : Items
  old = copy_of v (plain_pool pool)

  abbrev tx : Transaction
  tx = tx_with v (plain_pool pool) old

  xb : Agrees classes v (is_kept_by ran.operation kept) s
  xb = agrees_back v next (is_kept_by ran.operation kept) kept tells.keeps (grows kept) classes s x

  hb : Holds v.fixed.shape classes s header pool
  hb = holds_before v next entries entries' root ran tells by.looks kept classes s header pool x xb holds id c

  abbrev set_items : Items
  set_items = all_edited (set_edits (map (λ (q : Setting). q.set) by.settings)) old

  stands : StandIn next.fixed.shape classes (bits_now next entries' s) set_items
  stands = subst (λ (f : Constants). StandIn f.shape classes (bits_now next entries' s) set_items) (sym tells.keeps.fixed)
      (sets_now v next entries entries' by.settings by.sets (is_kept_by ran.operation kept) classes s header pool hb xb by.looks.enters old c.stands)

  unrefused : refusal_of ran.seen tx ran.operation ≡ None
  unrefused = first_is v next entries entries' root ran tells by.looks kept classes s header pool x xb holds id c ∙ by.unrefused

  done : IsDone tx Commit kept ran.reply
  done = record { there = Rattle.std.proofs.lemmas.List.Elements.All-nil _; publishes = tt; value = by.replied }

  items : (after_reply ran.operation ran.reply tx).items ≡ set_items
  items = ap (λ op. (after_reply op ran.reply tx).items) by.commits ∙ (ap (λ r. (after_reply Commit r tx).items) by.replied
      ∙ (ended_items (leb (lists_of v).level 1) tx ∙ ap (λ (sets : List SetWord). all_edited (set_edits sets) old) (sym by.are)))

  pub leads : LeadsOn v entries next entries' ran kept classes s (plain_pool pool)
  leads = record {
    replies = is_done tx ran kept (ap is_inside by.commits) unrefused (subst (λ op. IsDone tx op kept ran.reply) (sym by.commits) done);
    stands = subst (StandIn next.fixed.shape classes (bits_now next entries' s)) (sym items) stands;
  }

pub sim_commits : SimCommits
sim_commits v next entries entries' root ran sim tells may grows by = sim_goes_on v next entries entries' ran sim tells may grows
    (λ kept classes s header pool x holds id c. leads v next entries entries' root ran tells grows by kept classes s header pool x holds id c)

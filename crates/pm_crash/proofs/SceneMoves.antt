-- The words of a block in any bits where it stands; and scenes whose blocks and words stay.
use Rattle.std.proofs.Common.{◌≡◌, ⊎_elim, inl, inr, ℕ, ◌+◌, ◌*◌, ◌/◌, ◌%◌, ◌<◌, ◌≤◌, Bool, true, false, Some, sym, ◌∙◌, ap, subst, arith}
use Rattle.std.proofs.lemmas.Bool.{cond-false, cond-true}
use Rattle.pm_layout.specs.Chunks.{chunks_of}
use Rattle.pm_layout.specs.Sizes.{blocks_of}
use Rattle.pm_layout.specs.declared.shape.Shape.{Shape}
use Rattle.pm_image.specs.declared.block.Block.{Block as Lines}
use Rattle.pm_image.specs.Blocks.{chunk_word}
use Rattle.pm_image.specs.Contents.{data_words, offset_in, size_in}
use Rattle.pm_image.specs.Reads.{AgreeOn, ReadsBlock}
use Rattle.pm_image.proofs.LocalContents.{contents_local}
use Rattle.pm_image.proofs.Rooms.{run_fits}
use Rattle.pm_model.specs.Items.{Item, Items}
use Rattle.pm_view.specs.Places.{Place, InRun, InHuge, RootWord, Block, Small, Big, Root, word_of}
use Rattle.pm_world.specs.States.{State}
use Rattle.pm_crash.specs.Objects.{item_in}
use Rattle.pm_crash.specs.Scenes.{AreApart, IsScene}
use Rattle.pm_crash.specs.Spelled.{has_blocks, number, words_by}
use Rattle.pm_crash.proofs.Spelling.{chunk_is, chunk_spelled}
use Rattle.pm_crash.proofs.Written.{item_kept}

-- ---- WORDS

-- word k of a block, in runs of these classes
abbrev pub place_by : (ℕ → ℕ) → Block → ℕ → Place
place_by classes (Small c i) k = InRun c (8 * (1 + classes c * i) + k)
place_by classes (Big f) k = InHuge (f + k / 512) (k % 512)
place_by classes Root k = RootWord

-- a block of these lines stands in the bits
pub data IsIn (sh : Shape) (classes : ℕ → ℕ) (u : State) (lies : Lines) : Block → Type 0 where
  SmallIn : (c i : ℕ) → c < chunks_of sh → i < blocks_of (classes c) → has_blocks u c ≡ true
      → lies ≡ record { place = 8 * chunk_word sh.lanes c + 64 * (1 + classes c * i); lines = classes c } → IsIn sh classes u lies (Small c i)
  BigIn : (f n : ℕ) → f < chunks_of sh → f % 64 + n ≤ 64 → ((g : ℕ) → f ≤ g → g < f + n → has_blocks u g ≡ false)
      → lies ≡ record { place = 8 * chunk_word sh.lanes f; lines = 64 * n } → IsIn sh classes u lies (Big f)

pub word_at : (sh : Shape) (classes : ℕ → ℕ) (u : State) (lies : Lines) (B : Block) (k : ℕ) → IsIn sh classes u lies B → k < 8 * lies.lines
    → (words_by sh classes u (lies.place / 8 + k) ≡ number (u (place_by classes B k))) × (word_of sh (place_by classes B k) ≡ lies.place / 8 + k)
word_at sh classes u lies B k (SmallIn c i inside index has e) low =
    let fit = run_fits (classes c) i index in
    let m : ℕ = classes c * i in
    let r : ℕ = 8 * (1 + m) + k in
    let place : lies.place ≡ 8 * chunk_word sh.lanes c + 64 * (1 + m) = ap (λ (l : Lines). l.place) e in
    let lines : lies.lines ≡ classes c = ap (λ (l : Lines). l.lines) e in
    let is : lies.place / 8 + k ≡ chunk_word sh.lanes c + r = omega arith in
    let chunk = chunk_is sh c in (
      ap (words_by sh classes u) is ∙ (chunk_spelled sh classes u c r inside (omega arith) ∙ ap (λ p. number (u p)) (cond-true (has_blocks u c) (InRun c r) (InHuge c r) has)),
      ap (λ n. n + r) chunk ∙ sym is,
    )
word_at sh classes u lies B k (BigIn f n inside zone none e) low =
    let place : lies.place ≡ 8 * chunk_word sh.lanes f = ap (λ (l : Lines). l.place) e in
    let lines : lies.lines ≡ 64 * n = ap (λ (l : Lines). l.lines) e in
    let g : ℕ = f + k / 512 in
    let is : lies.place / 8 + k ≡ chunk_word sh.lanes g + k % 512 = omega arith in
    let chunk = chunk_is sh g in (
      ap (words_by sh classes u) is ∙ (chunk_spelled sh classes u g (k % 512) (omega arith) (omega arith)
          ∙ ap (λ p. number (u p)) (cond-false (has_blocks u g) (InRun g (k % 512)) (InHuge g (k % 512)) (none g (omega arith) (omega arith)))),
      ap (λ q. q + k % 512) chunk ∙ sym is,
    )

-- ---- SCENES WHOSE BLOCKS AND WORDS STAY

pub scene_moved : (among among' : Block → Bool) (at at' : Block → Lines) (w w' : ℕ → ℕ) (items : Items) → IsScene among at w items
    → ((B : Block) → among' B ≡ among B) → ((B : Block) → among B ≡ true → at' B ≡ at B)
    → ((B : Block) → among B ≡ true → AgreeOn (ReadsBlock w (at B)) w w') → IsScene among' at' w' items
scene_moved among among' at at' w w' items x same lies agree = record {
  begins = λ B a. let b = here B a in ap (λ (l : Lines). l.place % 8) (lies B b) ∙ x.begins B b;
  fits = λ B a. let b = here B a in
      subst (λ (l : Lines). 8 + data_words (size_in w' l) ≤ 8 * l.lines) (sym (lies B b))
      (subst (λ n. 8 + data_words n ≤ 8 * (at B).lines) (sym ((contents_local w w' (at B) (agree B b)).same_size)) (x.fits B b));
  apart = λ B C a b. ⊎_elim (λ (e : B ≡ C). inl e)
      (λ (y : AreApart (at B) (at C)). inr (subst (λ (l : Lines). AreApart l (at' C)) (sym (lies B (here B a))) (subst (λ (l : Lines). AreApart (at B) l) (sym (lies C (here C b))) y)))
      (x.apart B C (here B a) (here C b));
  has = λ B a. let b = here B a in
      ap (λ (l : Lines). items (offset_in l)) (lies B b) ∙ (x.has B b ∙ ap (λ (i : Item). Some i) (sym (item_kept w w' (at B) (agree B b)) ∙ ap (item_in w') (sym (lies B b))));
  only = λ off item e. let t = x.only off item e in (t.0, same t.0 ∙ t.1, t.2 ∙ ap (λ (l : Lines). offset_in l) (sym (lies t.0 t.1)));
}
  where
    here : (B : Block) → among' B ≡ true → among B ≡ true
    here B a = sym (same B) ∙ a

-- A lane at work may look at a word that it doesn't know, where no block is told of by it.
use Rattle.std.proofs.Common.{◌≡◌, ◌≢◌, ℕ, ◌/◌, ◌<◌, All, IfSome, ⊎_elim, Bool, true, false, not, cond, eqb, leb, Contains, List, [], ◌∷◌, ◌++◌, set, slice_index, Some, None, refl, sym, ap, ◌∙◌, subst, length-set, get_or-set_other, eq-eqb}
use Rattle.std.specs.List.{list_any}
use Rattle.std.proofs.lemmas.Bool.{and_from, cases_eq, cond-false, le-leb, or_left, or_right}
use Rattle.std.proofs.lemmas.List.{set-get_or}
use Rattle.std.proofs.lemmas.List.Elements.{Contains-append_left, Contains-append_right}
use Rattle.solo_view.specs.Area.{is_in_area}
use Rattle.solo_view.specs.Blocks.{allocation_word, bitmap_word, block_at, chunk_of, descriptor_word, is_chunk, is_run, is_word, zone_page}
use Rattle.solo_view.specs.Constants.{IsSameLane}
use Rattle.solo_view.specs.Founds.{FindsKnown}
use Rattle.solo_view.specs.Held.{is_held, is_known}
use Rattle.solo_view.specs.Steps.Step.{Load}
use Rattle.solo_view.specs.View.{View, Lock}
use Rattle.solo_view.specs.Views.{after, with_block}
use Rattle.solo_world.specs.Opening.{Opening}
use Rattle.solo_undo.specs.Working.{FindsOpening, HasLearned, IsPlain, IsSameCall, IsWorking}
use Rattle.solo_undo.proofs.Staying.{same_locks, still_known}
use Rattle.solo_undo.proofs.Written.{work_goes_on}

-- the word that tells of a line's block is the same, where its chunk is described as it was
told_alike : (lanes line w x : ℕ) (words : List ℕ) → (is_chunk lanes (line / 64) ≡ true → w ≢ descriptor_word lanes (line / 64)) → allocation_word lanes (set words w x) line ≡ allocation_word lanes words line
told_alike lanes line w x words apart = at (is_chunk lanes (line / 64)) refl where
  d : ℕ
  d = descriptor_word lanes (line / 64)

  at : (b : Bool) → is_chunk lanes (line / 64) ≡ b
      → cond (not b) None (Some (cond (is_run (slice_index (set words w x) d)) (bitmap_word (line / 64)) d)) ≡ cond (not b) None (Some (cond (is_run (slice_index words d)) (bitmap_word (line / 64)) d))
  at true c = ap (λ y. Some (cond (is_run y) (bitmap_word (line / 64)) d)) (get_or-set_other words w d x 0 (λ same. apart c (sym same)))
  at false c = refl

-- where each chunk is described as it was, the same blocks are found under the same locks
pub opening_kept : (o : Opening) (v w : View) → FindsOpening o v → IsSameLane v w → w.locks ≡ v.locks
    → ((page : ℕ) → is_chunk v.lanes page ≡ true → slice_index w.words (descriptor_word v.lanes page) ≡ slice_index v.words (descriptor_word v.lanes page)) → FindsOpening o w
opening_kept o v w finds lane locks same = record {
  lane = subst (λ n. n < w.lanes) (sym lane.lane) (subst (λ n. v.lane < n) (sym lane.lanes) finds.lane);
  lanes = lane.lanes ∙ finds.lanes;
  size = lane.size ∙ finds.size;
  descriptors = λ page chunk taken.
      let is : is_chunk v.lanes page ≡ true =
      ap (λ n. is_chunk n page) finds.lanes ∙ and_from (leb (zone_page o.lanes 0) page) (leb 1 (chunk_of o.lanes page)) (le-leb (zone_page o.lanes 0) page chunk.0) (le-leb 1 (chunk_of o.lanes page) chunk.1) in
      subst (λ n. slice_index w.words (descriptor_word n page) ≡ slice_index v.words (descriptor_word n page)) finds.lanes (same page is) ∙ finds.descriptors page chunk taken;
  locks = subst (λ locks. All (λ (l : Lock). IfSome l.block (λ lines. block_at o.lanes o.words l.line ≡ Some lines)) locks) (sym locks) finds.locks;
}

-- the view after a load that tells of no block
abbrev pub learned : View → ℕ → ℕ → View
learned v w x = record v { words = set v.words w x; known = cond (is_held v w) (w ∷ v.known) v.known; seen = v.seen ++ Load w x ∷ [] }

module _ (v : View) (w x : ℕ) (plain : IsPlain v w) where
  pub loads_so : after v (Load w x) ≡ learned v w x
  loads_so =
      ap (λ locks. record (learned v w x) { locks = locks })
      (same_locks (with_block v.lanes (set v.words w x) w) v.locks
      (λ l there. cond-false _ _ l (ap (λ a. is_word a w) (told_alike v.lanes l.line w x v.words (plain.plain (l.line / 64))) ∙ plain.quiet l there)))

  module _ (finds : FindsKnown v w x) where
    -- what was known has its value
    same_known : (u : ℕ) → is_known v u ≡ true → slice_index (set v.words w x) u ≡ slice_index v.words u
    same_known u known = ⊎_elim
        (λ (here : u ≡ w). ap (λ y. slice_index (set v.words w y) u) (finds (ap (is_known v) (sym here) ∙ known)) ∙ ap (λ ws. slice_index ws u) (set-get_or v.words w 0))
        (λ (there : u ≢ w). get_or-set_other v.words w u x 0 there)
        (cases_eq u w)

    same_learned : IsSameCall v (learned v w x)
    same_learned = record {
      lane = record { lanes = refl; zones = refl; pool = refl; lane = refl; stop = refl; table = refl; size = length-set v.words w x };
      locks = refl;
      zone_locks = refl;
      reserved = refl;
      freed = refl;
      call = refl;
      number = refl;
      chunks = refl;
      entries = refl;
      actions = refl;
      known = λ u. still_known v (cond (is_held v w) (w ∷ v.known) v.known) u (at u (is_held v w));
      remembers = λ u. more u (is_held v w);
      seen = λ s there. Contains-append_left v.seen (Load w x ∷ []) s there;
    } where
      more : (u : ℕ) (b : Bool) → Contains v.known u → Contains (cond b (w ∷ v.known) v.known) u
      more u true there = Contains-append_right (w ∷ []) v.known u there
      more u false there = there

      at : (u : ℕ) (b : Bool) → list_any (λ other. eqb other u) v.known ≡ true → list_any (λ other. eqb other u) (cond b (w ∷ v.known) v.known) ≡ true
      at u true e = or_right (eqb w u) (list_any (λ other. eqb other u) v.known) e
      at u false e = e

    known_now : is_held v w ≡ true → is_known (learned v w x) w ≡ true
    known_now held =
        or_right (is_in_area v.lane w) (list_any (λ other. eqb other w) (cond (is_held v w) (w ∷ v.known) v.known)) (at (is_held v w) held) where
          at : (b : Bool) → b ≡ true → list_any (λ other. eqb other w) (cond b (w ∷ v.known) v.known) ≡ true
          at true e = or_left (eqb w w) (list_any (λ other. eqb other w) v.known) (eq-eqb w w refl)
          at false e = absurd cc

    pub learns_at_work : IsWorking v → HasLearned v w (after v (Load w x))
    learns_at_work working = subst (HasLearned v w) (sym loads_so) (record {
      call = same_learned;
      working = work_goes_on v (learned v w x) working same_learned refl
          (λ u inside. same_known u (or_left (is_in_area v.lane u) (list_any (λ other. eqb other u) v.known) inside)) working.drained;
      log = refl;
      changes = refl;
      same = same_known;
      others = λ u there. get_or-set_other v.words w u x 0 there;
      learned = known_now;
    })

  -- chunks are described as they were, and blocks found
  pub opening_learned : (o : Opening) → FindsOpening o v → FindsOpening o (after v (Load w x))
  opening_learned o finds =
      subst (FindsOpening o) (sym loads_so)
      (opening_kept o v (learned v w x) finds
      (record { lanes = refl; zones = refl; pool = refl; lane = refl; stop = refl; table = refl; size = length-set v.words w x }) refl
      (λ page chunk. get_or-set_other v.words w (descriptor_word v.lanes page) x 0 (λ same. plain.plain page chunk (sym same))))

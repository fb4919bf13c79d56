-- Sealed entries may be applied, in order, and made persistent, and what that leaves.
use Rattle.std.proofs.Common.{◌≡◌, ◌≢◌, ℕ, zero, suc, ◌+◌, ◌*◌, ◌/◌, ◌<◌, ◌⊎◌, inl, inr, ⊎_elim, cond, eqb, All, List, [], ◌∷◌, ◌++◌, length, length-append, map, take, slice_get, slice_index, Some, is_some, refl, sym, ap, ◌∙◌, subst, arith, eq-eqb, ne_eqb, get_or-set_same, get_or-set_other, false, bit_or, bit_and, ◌^◌}
use Rattle.std.proofs.lemmas.Bool.{cases_eq, cond-true, cond-false, false≢true}
use Rattle.std.proofs.lemmas.Nat.{and_le_r, or_lt}
use Rattle.std.proofs.lemmas.List.{length-map}
use Rattle.std.proofs.lemmas.Option.{none-some, same_Some}
use Rattle.std.proofs.lemmas.List.Elements.{All-head, All-tail}
use Rattle.pm_record.specs.declared.redo.Op.{Op}
use Rattle.pm_record.specs.declared.redo.Op.TheVariants.{Set, Or, And}
use Rattle.pm_record.specs.declared.redo.Redo.{Redo}
use Rattle.solo_view.specs.declared.change.Change.{Change}
use Rattle.solo_view.specs.Bits.{with_bits}
use Rattle.solo_view.specs.Area.{Part, area_word, is_in_area, part_of}
use Rattle.solo_view.specs.Area.Part.{GenerationWord, OtherWord}
use Rattle.solo_view.specs.Changes.{and_change, or_change, store_change}
use Rattle.solo_view.specs.Log.{Final, Log, log_changed, log_drained, log_stored}
use Rattle.solo_view.specs.Log.Phase.{Applying}
use Rattle.solo_view.specs.Steps.Step.{Store, Or as OrStep, And as AndStep}
use Rattle.solo_view.specs.View.{View}
use Rattle.solo_view.specs.Views.{after, after_all, changed}
use Rattle.solo_world.specs.Entries.{IsKnownWord, ends_with, final_by, set_word}
use Rattle.solo_world.specs.History.{made_final}
use Rattle.solo_world.specs.Lawful.{BitsFit, MayChange, MayStore, StoreFits, ChangesAlone}
use Rattle.solo_world.specs.Records.{generation_of}
use Rattle.solo_world.specs.Sequences.{Ready, settles}
use Rattle.solo_world.proofs.Differences.{with_all_bits}
use Rattle.solo_world.proofs.MadeBits.{and_makes, or_makes}
use Rattle.solo_world.proofs.StorePair.{final_word}
use Rattle.solo_world.proofs.Going.{Goes, goes_counted, goes_then}
use Rattle.solo_world.proofs.Replays.{made_final-append}
use Rattle.solo_undo.specs.Working.{HasMadeRoom, IsSameCall, IsSettled, log_settled}
use Rattle.solo_undo.proofs.Areas.{generation_in_area, generation_word, other_part}
use Rattle.solo_undo.proofs.Settled.{settle_lawful}
use Rattle.solo_undo.proofs.Staying.{same_call, same_call-then, same_changed, same_settled}
use Rattle.solo_undo.proofs.Storing.{goes_stores}
use Rattle.solo_redo.specs.Entering.{AreEntered, HasPlace, IsApplied, IsOfPool, ending, final_of, EntersHeap, MayEnter}
use Rattle.solo_redo.specs.Sequences.{applies, applies_each, applies_entry, does, entry_at}
use Rattle.solo_redo.proofs.Changing.{goes_ands, goes_ors}
use Rattle.solo_redo.proofs.Entered.{room_is_there}
use Rattle.solo_redo.proofs.Whole.{logged_front, heap_entered, may_inside, may_outside, may_word, same_heap}

-- the first so many, and one more
pub take_more : (xs : List Final) (k : ℕ) (f : Final) → slice_get xs k ≡ Some f → take (k + 1) xs ≡ take k xs ++ f ∷ []
take_more [] k f at = absurd (none-some f at)
take_more (x ∷ xs) zero f at = ap (λ (y : Final). y ∷ []) (same_Some x f at)
take_more (x ∷ xs) (suc k) f at =
    let e : suc k + 1 ≡ suc (k + 1) = omega arith in
    ap (λ n. take n (x ∷ xs)) e ∙ ap (λ (ys : List Final). x ∷ ys) (take_more xs k f at)

pub mapped_at : (es : List Redo) (k : ℕ) → k < length es → slice_get (map final_of es) k ≡ Some (final_of (entry_at es k))
mapped_at [] k low = absurd (omega arith)
mapped_at (e ∷ es) zero low = refl
mapped_at (e ∷ es) (suc k) low = mapped_at es k (omega (arith, low))

-- an entry is one of the front, or the last
pub front_or_last : (front : List Redo) (last : Redo) (k : ℕ) (P : Redo → Type 0) → All P front → k < length (front ++ last ∷ []) → P (entry_at (front ++ last ∷ []) k) ⊎ (entry_at (front ++ last ∷ []) k ≡ last)
front_or_last [] last zero P each low = inr refl
front_or_last [] last (suc k) P each low = absurd (omega (arith, low))
front_or_last (e ∷ front) last zero P each low = inl (All-head P e front each)
front_or_last (e ∷ front) last (suc k) P each low = front_or_last front last k P (All-tail P e front each) (omega (arith, low))

pub take_all : (gs : List Final) → take (length gs) gs ≡ gs
take_all [] = refl
take_all (g ∷ gs) = ap (λ (hs : List Final). g ∷ hs) (take_all gs)

-- one entry takes effect
one_makes : (f : Final) (y z : ℕ) → made_final (f ∷ []) y z ≡ cond (eqb f.word y) (with_bits f.mask f.bits z) z
unfolding made_final
one_makes f y z = refl

module _ (v : View) (place : HasPlace v) (entries : List Redo) (are : AreEntered v entries) (start : v.log.phase ≡ Applying 0) (none : v.changes ≡ []) where
  abbrev fs : List Final
  fs = v.log.entries

  count : length fs ≡ length entries
  count = ap length are.logged ∙ length-map entries final_of

  -- so many entries are applied
  record HasApplied (k : ℕ) (u : View) : Type 0 where
    call : IsSameCall v u
    log : u.log ≡ record v.log { phase = Applying k }
    few : length u.changes ≡ k
    words : (x : ℕ) → slice_index u.words x ≡ made_final (take k fs) x (slice_index v.words x)
    small : (x : ℕ) → is_in_area v.lane x ≡ false → slice_index v.words x < 2 ^ 64 → slice_index u.words x < 2 ^ 64

  begins : HasApplied 0 v
  unfolding made_final
  begins = record {
    call = same_call v;
    log = ap (λ phase. let l : Log = record v.log { phase = phase } in l) start;
    few = ap length none;
    words = λ x. refl;
    small = λ x out low. low;
  }

  module _ (k : ℕ) (low : k < length entries) where
    abbrev e : Redo
    e = entry_at entries k

    abbrev w : ℕ
    w = e.place / 8

    abbrev f : Final
    f = final_of e

    word : f.word ≡ w
    word = final_word e.op w e.value

    at : slice_get fs k ≡ Some f
    at = ap (λ es. slice_get es k) are.logged ∙ mapped_at entries k low

    which : MayEnter v e ⊎ (e ≡ ending v)
    which =
        subst (λ (es : List Redo). MayEnter v (entry_at es k) ⊎ (entry_at es k ≡ ending v)) (sym are.are)
        (front_or_last are.front (ending v) k (MayEnter v) are.each (let n = ap length are.are in omega (arith, low, n)))

    own_word : e ≡ ending v → w ≡ area_word v.lane
    own_word same = ap (λ (x : Redo). x.place / 8) same ∙ (let q : 8 * area_word v.lane / 8 ≡ area_word v.lane = omega arith in q)

    inside : w < length v.words
    inside = ⊎_elim (λ (o : MayEnter v e). may_inside v e o) (λ (same : e ≡ ending v). let q = own_word same in let area = place.inside in omega (arith, q, area)) which

    -- a word outside of the lane's area is of an entry of the pool
    pool_word : is_in_area v.lane w ≡ false → MayEnter v e
    pool_word out = ⊎_elim (λ (o : MayEnter v e). o) (λ (same : e ≡ ending v). absurd (false≢true (sym out ∙ (ap (is_in_area v.lane) (own_word same) ∙ generation_in_area v.lane)))) which

    -- an entry that does not set its word is of the pool, and the lane knows the word, or is alone
    changes : (op : Op) → (op ≡ Set → ⊥) → e.op ≡ op → MayEnter v e × (IsKnownWord v w ⊎ ChangesAlone v w)
    changes op other is = ⊎_elim
        (λ (may : MayEnter v e). (
          may,
          ⊎_elim (λ (o : IsOfPool v e). ⊎_elim (λ (sets : e.op ≡ Set). absurd (other (sym is ∙ sets))) (λ (known : IsKnownWord v w). inl known) o.known)
              (λ (h : EntersHeap v e). inr (record { alone = h.alone; heap = heap_entered v entries are k (omega (arith, low, count)) e at h; small = ⊎_elim (λ (sets : e.op ≡ Set). absurd (other (sym is ∙ sets))) (λ (low_ : slice_index v.words w < 2 ^ 64). low_) h.small })) may,
        ))
        (λ (same : e ≡ ending v). absurd (other (sym is ∙ ap (λ (x : Redo). x.op) same))) which

    module _ (u : View) (has : HasApplied k u) where
      lane : u.lane ≡ v.lane
      lane = has.call.lane.lane

      inside_still : w < length u.words
      inside_still = let size = has.call.lane.size in let low_ = inside in omega (arith, size, low_)

      room_still : length u.changes < 512
      room_still = let few = has.few in let most = are.most in omega (arith, few, low, most)

      -- the word is the lane's generation, or lies outside of its area
      by_part : (P : Part → Type 0) → P GenerationWord → P OtherWord → P (part_of u.lane w)
      by_part P generation other =
          subst (λ j. P (part_of j w)) (sym lane)
          (⊎_elim (λ (o : MayEnter v e). subst P (sym (other_part v.lane w (may_outside v e o))) other)
          (λ (same : e ≡ ending v). subst P (sym (ap (part_of v.lane) (own_word same) ∙ generation_word v.lane)) generation) which)

      here : (g : Final) → f ≡ g → slice_get u.log.entries k ≡ Some g
      here g same = ap (λ (l : Log). slice_get l.entries k) has.log ∙ (at ∙ ap Some same)

      -- once the word has become what the entry makes of it
      module _ (y : ℕ) (c : Change) (lg : Log) (log' : lg ≡ record v.log { phase = Applying (k + 1) }) (makes : y ≡ with_bits f.mask f.bits (slice_index u.words w)) (small : is_in_area v.lane w ≡ false → y < 2 ^ 64) where
        abbrev u' : View
        u' = changed u w y c lg

        words' : (x : ℕ) → slice_index u'.words x ≡ made_final (take (k + 1) fs) x (slice_index v.words x)
        words' x =
            ⊎_elim (λ (same : w ≡ x). subst (λ z. slice_index u'.words z ≡ made_final (take (k + 1) fs) z (slice_index v.words z)) same
            (get_or-set_same u.words w y 0 inside_still ∙ (makes ∙ (ap (with_bits f.mask f.bits) (has.words w)
            ∙ (sym (cond-true (eqb f.word w) (with_bits f.mask f.bits (made_final (take k fs) w (slice_index v.words w))) (made_final (take k fs) w (slice_index v.words w)) (eq-eqb f.word w word)) ∙ sym (more w))))))
            (λ (other : w ≢ x). get_or-set_other u.words w x y 0 (λ s. other (sym s)) ∙ (has.words x
            ∙ (sym (cond-false (eqb f.word x) (with_bits f.mask f.bits (made_final (take k fs) x (slice_index v.words x))) (made_final (take k fs) x (slice_index v.words x)) (ne_eqb f.word x (λ s. other (sym word ∙ s)))) ∙ sym (more x))))
            (cases_eq w x) where
              more : (z : ℕ) → made_final (take (k + 1) fs) z (slice_index v.words z) ≡ cond (eqb f.word z) (with_bits f.mask f.bits (made_final (take k fs) z (slice_index v.words z))) (made_final (take k fs) z (slice_index v.words z))
              more z =
                  ap (λ (gs : List Final). made_final gs z (slice_index v.words z)) (take_more fs k f at)
                  ∙ (made_final-append (take k fs) (f ∷ []) z (slice_index v.words z) ∙ one_makes f z (made_final (take k fs) z (slice_index v.words z)))

        small' : (x : ℕ) → is_in_area v.lane x ≡ false → slice_index v.words x < 2 ^ 64 → slice_index u'.words x < 2 ^ 64
        small' x out low_before =
            ⊎_elim (λ (same : x ≡ w). subst (λ n. n < 2 ^ 64) (sym (ap (slice_index u'.words) same ∙ get_or-set_same u.words w y 0 inside_still)) (small (ap (is_in_area v.lane) (sym same) ∙ out)))
            (λ (other : x ≢ w). subst (λ n. n < 2 ^ 64) (sym (get_or-set_other u.words w x y 0 other)) (has.small x out low_before)) (cases_eq x w)

        applied : HasApplied (k + 1) u'
        applied = record {
          call = same_call-then v u u' has.call (same_changed u w y c lg);
          log = log';
          few = length-append u.changes (c ∷ []) ∙ ap (λ n. n + 1) has.few;
          words = words';
          small = small';
        }

      -- an entry that sets its word
      sets : e.op ≡ Set → MayStore u w e.value × HasApplied (k + 1) (after u (Store w e.value))
      sets is = (
        record { inside = inside_still; room = room_still; fits = next },
        applied e.value (store_change w (slice_index u.words w) e.value) (log_stored u.log.phase (part_of u.lane w) e.value u.log)
            (by_part (λ part. log_stored u.log.phase part e.value u.log ≡ record v.log { phase = Applying (k + 1) }) (stored GenerationWord refl) (stored OtherWord refl))
            (sym (with_all_bits (slice_index u.words w) e.value) ∙ ap (λ (g : Final). with_bits g.mask g.bits (slice_index u.words w)) (sym whole))
            (λ out. (may_word v e (pool_word out)).word),
      ) where
        whole : f ≡ set_word w e.value
        whole = ap (λ op. final_by op w e.value) is

        next : StoreFits u w e.value u.log.phase (part_of u.lane w)
        next =
            let at_k = here (set_word w e.value) whole in
            subst (λ phase. StoreFits u w e.value phase (part_of u.lane w)) (sym (ap (λ (l : Log). l.phase) has.log)) (by_part (StoreFits u w e.value (Applying k)) at_k at_k)

        stored : (part : Part) → log_stored (Applying k) part e.value (record v.log { phase = Applying k }) ≡ record v.log { phase = Applying (k + 1) } → log_stored u.log.phase part e.value u.log ≡ record v.log { phase = Applying (k + 1) }
        stored part made = ap (λ (l : Log). log_stored l.phase part e.value l) has.log ∙ made

      -- one that sets or clears bits of it
      small_here : (op : Op) → (op ≡ Set → ⊥) → e.op ≡ op → slice_index u.words w < 2 ^ 64
      small_here op other is =
          let t = changes op other is in
          has.small w (may_outside v e t.0) (⊎_elim (λ (known : IsKnownWord v w). known.small) (λ (alone : ChangesAlone v w). alone.small) t.1)

      -- a lane that is alone and changes the heap does so still
      alone_still : ChangesAlone v w → slice_index u.words w < 2 ^ 64 → ChangesAlone u w
      alone_still changes_ low_ = record { alone = has.call.lane.table ∙ changes_.alone; heap = same_heap v u has.call (ap (λ (l : Log). l.entries) has.log) ∙ changes_.heap; small = low_ }

      may : (op : Op) → (op ≡ Set → ⊥) → e.op ≡ op → MayChange u op w e.value
      may op other is =
          let t = changes op other is in
          let part : part_of u.lane w ≡ OtherWord = ap (λ j. part_of j w) lane ∙ other_part v.lane w (may_outside v e t.0) in
          record {
            inside = inside_still;
            room = room_still;
            fits = subst (λ phase. BitsFit u op w e.value phase (part_of u.lane w)) (sym (ap (λ (l : Log). l.phase) has.log))
                (subst (BitsFit u op w e.value (Applying k)) (sym part) ((final_by op w e.value).ors, here (final_by op w e.value) (ap (λ o. final_by o w e.value) is)));
            known = ⊎_elim (λ (known : IsKnownWord v w). inl (record { known = has.call.remembers w known.known; small = small_here op other is })) (λ (alone : ChangesAlone v w). inr (alone_still alone (small_here op other is))) t.1;
            word = (may_word v e t.0).word;
          }

      log_on : log_changed u.log.phase u.log ≡ record v.log { phase = Applying (k + 1) }
      log_on = ap (λ (l : Log). log_changed l.phase l) has.log

      ors_bits : e.op ≡ Or → MayChange u Or w e.value × HasApplied (k + 1) (after u (OrStep w e.value (slice_index u.words w)))
      ors_bits is =
          let found : ℕ = slice_index u.words w in
          let m = may Or (λ sets. absurd cc) is in let low_ = small_here Or (λ sets. absurd cc) is in (
            m,
            applied (bit_or found e.value) (or_change w e.value found) (log_changed u.log.phase u.log) log_on
                (or_makes e.value found m.word low_ ∙ ap (λ op. with_bits (final_by op w e.value).mask (final_by op w e.value).bits found) (sym is))
                (λ out. or_lt 64 found e.value low_ m.word),
          )

      ands_bits : e.op ≡ And → MayChange u And w e.value × HasApplied (k + 1) (after u (AndStep w e.value (slice_index u.words w)))
      ands_bits is =
          let found : ℕ = slice_index u.words w in
          let m = may And (λ sets. absurd cc) is in (
            m,
            applied (bit_and found e.value) (and_change w e.value found) (log_changed u.log.phase u.log) log_on
                (and_makes e.value found m.word ∙ ap (λ op. with_bits (final_by op w e.value).mask (final_by op w e.value).bits found) (sym is))
                (λ out. let least = and_le_r found e.value in let word_ = m.word in omega (arith, least, word_)),
          )

    -- no room has to be made
    in_place : (R : View → Type 0) (u m : View) → HasApplied k u → HasMadeRoom u m → R u → R m
    in_place R u m has made r = subst R (sym (room_is_there u m (room_still u has) made)) r

    by_op : (op : Op) → e.op ≡ op → Goes (HasApplied k) (does op w e.value) (HasApplied (k + 1))
    by_op Set is = goes_stores (HasApplied k) (HasApplied (k + 1)) w e.value (λ u m has made. in_place (λ z. MayStore z w e.value × HasApplied (k + 1) (after z (Store w e.value))) u m has made (sets u has is))
    by_op Or is = goes_ors (HasApplied k) (HasApplied (k + 1)) w e.value
        (λ u m has made. in_place (λ z. MayChange z Or w e.value × HasApplied (k + 1) (after z (OrStep w e.value (slice_index z.words w)))) u m has made (ors_bits u has is))
    by_op And is = goes_ands (HasApplied k) (HasApplied (k + 1)) w e.value
        (λ u m has made. in_place (λ z. MayChange z And w e.value × HasApplied (k + 1) (after z (AndStep w e.value (slice_index z.words w)))) u m has made (ands_bits u has is))

    applies_next : Goes (HasApplied k) (applies_entry e) (HasApplied (k + 1))
    unfolding applies_entry
    applies_next = by_op e.op refl

  each : Goes (HasApplied 0) (applies_each entries) (HasApplied (length entries))
  unfolding applies_each
  each = goes_counted HasApplied (λ i. applies_entry (entry_at entries i)) (length entries) applies_next

  -- once all is persistent
  ends : (u w : View) → HasApplied (length entries) u → IsSettled u w → IsApplied v w
  ends u z has settled =
      let n : ℕ = length entries in
      let all : take n fs ≡ fs = ap (λ k. take k fs) (sym count) ∙ take_all fs in
      let same_words : (x : ℕ) → slice_index z.words x ≡ made_final fs x (slice_index v.words x) = λ x. ap (λ (y : View). slice_index y.words x) settled ∙ (has.words x ∙ ap (λ (gs : List Final). made_final gs x (slice_index v.words x)) all) in
      let call : IsSameCall v z = same_call-then v u z has.call (same_settled u z settled) in
      record {
        call = call;
        log = ap (λ (y : View). y.log) settled ∙ (still u.changes ∙ (has.log ∙ ap (λ k. let l : Log = record v.log { phase = Applying k } in l) (sym count)));
        drained = ap (λ (y : View). y.changes) settled;
        words = λ x out. same_words x;
        generation = ap (λ j. slice_index z.words (area_word j)) call.lane.lane ∙ (same_words (area_word v.lane) ∙ last_sets);
      } where
        still : (changes : _) → log_settled changes u ≡ u.log
        still [] = refl
        still (c ∷ changes) = ap (λ phase. log_drained phase (is_some u.number) u.log) (ap (λ (l : Log). l.phase) has.log)

        last_sets : made_final fs (area_word v.lane) (slice_index v.words (area_word v.lane)) ≡ generation_of v + 1
        last_sets =
            let g : ℕ = area_word v.lane in
            ap (λ (gs : List Final). made_final gs g (slice_index v.words g)) (logged_front v entries are)
            ∙ (made_final-append (map final_of are.front) (ends_with v (generation_of v + 1) ∷ []) g (slice_index v.words g)
            ∙ (one_makes (ends_with v (generation_of v + 1)) g (made_final (map final_of are.front) g (slice_index v.words g))
            ∙ (cond-true (eqb g g) _ _ (eq-eqb g g refl) ∙ with_all_bits (made_final (map final_of are.front) g (slice_index v.words g)) (generation_of v + 1))))

  pub apply_lawful : Ready v (applies entries v) × IsApplied v (after_all v (applies entries v))
  unfolding applies
  apply_lawful =
      goes_then (HasApplied 0) (HasApplied (length entries)) (IsApplied v) (applies_each entries) settles each
      (λ u has. let s = settle_lawful u in (s.0, ends u (after_all u (settles u)) has s.1)) v begins

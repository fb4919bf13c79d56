-- Which words a lane's entries are of, what its pairs hold, and what stays of both.
use Rattle.std.proofs.Common.{◌≡◌, ◌⊎◌, ℕ, ◌+◌, ◌*◌, ◌<◌, ◌≤◌, inl, inr, ⊎_elim, Bool, true, false, not, ◌||◌, List, eqb, ◌&&◌, ◌++◌, IsTrue, All, [], ◌∷◌, length, drop, get_or, slice_get, slice_index, Some, refl, sym, ap, ◌∙◌, subst, arith, eq-eqb}
use Rattle.std.proofs.lemmas.Bool.{and_parts, or_cases, or_parts, or_from, eqb-true, false≢true, false_from_ne_true}
use Rattle.std.proofs.lemmas.List.Elements.{All-weaker}
use Rattle.std.specs.List.{list_any}
use Rattle.std.proofs.lemmas.List.Folds.{Any-from_list_any, list_any_at}
use Rattle.std.proofs.lemmas.Option.{none-some, get_or_from_slice_get, slice_get-get_or, slice_get_within}
use Rattle.std.specs.Int.{bit_at}
use Rattle.pm_record.specs.declared.redo.Op.{Op}
use Rattle.pm_record.specs.declared.redo.Op.TheVariants.{Set}
use Rattle.solo_view.specs.Area.{area_word, is_in_area}
use Rattle.solo_view.specs.Log.{Phase, Log, Final}
use Rattle.solo_view.specs.Log.Phase.{Idle, Open, Drawn, Sealing, Applying, Clearing, Retiring}
use Rattle.solo_view.specs.Rights.{is_written}
use Rattle.solo_view.specs.View.{View}
use Rattle.solo_view.specs.Views.{changes_heap, is_of_heap}
use Rattle.solo_world.specs.Entries.{AreWhole, EntersAlone, EntryStands, HasNone, IsEnterable, IsEntryAt, IsGrowing, applied_in, entry_word, final_by, is_bit_entered, is_entered, is_in_log, is_or_entered, is_redoing, is_redone, pair_at, seal_in, set_word}
use Rattle.solo_world.specs.Fits.{EntriesFit, LogFits, RedoneWord}
use Rattle.solo_world.specs.History.{is_final, made_final}
use Rattle.solo_world.specs.Memory.{Memory}
use Rattle.solo_world.specs.Memory.Location.{PoolWord}
use Rattle.solo_world.specs.Records.{is_recorded, is_logged, pool_entries, difference_of}
use Rattle.solo_world.proofs.Differences.{difference-words, pool_entries-final, pool_entries-area}
use Rattle.solo_world.proofs.MadeBits.{IsMasked, masked_by}
use Rattle.solo_world.proofs.Plain.{plain_still, redoing_still}
use Rattle.solo_world.proofs.Slots.{word_recorded, logged_recorded}

-- an entry of the word
pub entered_at : (v : View) (w : ℕ) → is_entered v.log.entries w ≡ true → (i : ℕ) × (f : Final) × IsEntryAt v i f × (f.word ≡ w)
entered_at v w e =
    let t = Any-from_list_any (λ (f : Final). eqb f.word w) v.log.entries e in
    let f : Final = t.1 in
    (t.0, f, slice_get-get_or v.log.entries t.0 f t.2 ∙ ap Some t.3, eqb-true f.word w t.4)

-- where no entry is of the heap, a word that one is of is written or in the lane's area
pub plain_word : (v : View) (w : ℕ) → changes_heap v ≡ false → is_entered v.log.entries w ≡ true → (is_in_area v.lane w || is_written v w) ≡ true
plain_word v w plain e =
    let t = entered_at v w e in
    let of : (is_in_area v.lane t.1.word || is_written v t.1.word) ≡ true = not_false (is_in_area v.lane t.1.word || is_written v t.1.word) (all_parts (is_of_heap v) v.log.entries plain t.0 t.1 t.2) in
    ap (λ u. is_in_area v.lane u || is_written v u) (sym t.3) ∙ of
  where
    not_false : (b : Bool) → not b ≡ false → b ≡ true
    not_false true e = refl
    not_false false e = absurd (false≢true (sym e))

    all_parts : (test : Final → Bool) (entries : List Final) → list_any test entries ≡ false → (i : ℕ) (f : Final) → slice_get entries i ≡ Some f → test f ≡ false
    all_parts test entries none i f at = false_from_ne_true (test f) (λ so. false≢true (sym none ∙ list_any_at test entries i f (slice_get_within entries i f at) (ap test (get_or_from_slice_get entries i f f at) ∙ so)))

-- outside of its area it is locked for writing
pub entered_written : (v : View) (w : ℕ) → changes_heap v ≡ false → is_entered v.log.entries w ≡ true → is_in_area v.lane w ≡ false → IsTrue (is_written v w)
entered_written v w plain e out =
    ⊎_elim (λ (inside : is_in_area v.lane w ≡ true). absurd (false≢true (sym out ∙ inside))) (λ (written : IsTrue (is_written v w)). written)
    (or_cases (is_in_area v.lane w) (is_written v w) (plain_word v w plain e))

-- of an entry that stands so
pub plain_entry : (v : View) (i : ℕ) (f : Final) → changes_heap v ≡ false → IsEntryAt v i f → EntersAlone v f.word → IsTrue (is_written v f.word)
plain_entry v i f plain at alone =
    entered_written v f.word plain (list_any_at (λ (g : Final). eqb g.word f.word) v.log.entries i f (slice_get_within v.log.entries i f at) (ap (λ (g : Final). eqb g.word f.word) (get_or_from_slice_get v.log.entries i f f at) ∙ eq-eqb f.word f.word refl)) alone.2

-- a word that an entry ORs is one that the lane writes, once the log may not grow
pub or_written : (v : View) (w : ℕ) → EntriesFit v → (IsGrowing v.log.phase → ⊥) → is_or_entered v.log.entries w ≡ true → IsTrue (is_written v w)
or_written v w fits still e =
    let t = Any-from_list_any (λ (f : Final). eqb f.word w && f.ors) v.log.entries e in
    let f : Final = t.1 in
    let parts = and_parts (eqb f.word w) f.ors t.4 in
    let stands = fits.each t.0 f (slice_get-get_or v.log.entries t.0 f t.2 ∙ ap Some t.3) in
    ⊎_elim (λ (written : IsTrue (is_written v f.word)). subst (λ u. IsTrue (is_written v u)) (eqb-true f.word w parts.0) written)
    (λ (other : ((f.word ≡ area_word v.lane) × (stands.op ≡ Set)) ⊎ EntersAlone v f.word). ⊎_elim (λ (own : (f.word ≡ area_word v.lane) × (stands.op ≡ Set)).
    let sets : f.ors ≡ false = ap (λ (g : Final). g.ors) stands.is ∙ ap (λ op. (final_by op f.word stands.value).ors) own.1 in
    absurd (false≢true (sym sets ∙ parts.1)))
    (λ (alone : EntersAlone v f.word). absurd (still alone.1)) other)
    stands.may.of

-- an entry has bits of its mask alone
pub stands_masked : (v : View) (i : ℕ) (f : Final) → EntryStands v i f → IsMasked f
stands_masked v i f fits = subst IsMasked (sym fits.is) (masked_by fits.op f.word fits.value fits.may.word)

pub entries_masked : (v : View) → EntriesFit v → All IsMasked v.log.entries
entries_masked v fits = λ n d low. stands_masked v n (get_or v.log.entries n d) (fits.each n (get_or v.log.entries n d) (slice_get-get_or v.log.entries n d low))

-- a word of the call's difference is one that the lane writes
pub difference-written : (settled : ℕ → ℕ) (v : View) (generation w : ℕ) → LogFits settled v generation → changes_heap v ≡ false → is_final (difference_of v) w ≡ true → IsTrue (is_written v w)
difference-written settled v generation w log_fits plain e =
    ⊎_elim (λ (recorded : is_recorded v.log.records w ≡ true). (word_recorded settled v generation w log_fits recorded).fits.own)
    (λ (entry : is_final (pool_entries v) w ≡ true).
    let out : is_in_area v.lane w ≡ false = false_from_ne_true (is_in_area v.lane w) (λ within. false≢true (sym (pool_entries-area v w within) ∙ entry)) in
    entered_written v w plain (sym (pool_entries-final v w out) ∙ entry) out)
    (or_cases (is_recorded v.log.records w) (is_final (pool_entries v) w) (sym (difference-words v w) ∙ e))

-- so is a word of its log
pub in_log_written : (settled : ℕ → ℕ) (v : View) (generation w : ℕ) → LogFits settled v generation → EntriesFit v → is_in_area v.lane w ≡ false → is_in_log v w ≡ true → IsTrue (is_written v w)
in_log_written settled v generation w log_fits fits out e =
    ⊎_elim (λ (logged : is_logged v w ≡ true). (word_recorded settled v generation w log_fits (logged_recorded v 0 v.log.records w logged)).fits.own)
    (λ (redone : is_redone v w ≡ true). let t = and_parts (is_redoing v.log.phase) (is_entered v.log.entries w) redone in entered_written v w (plain_still v fits (redoing_still v.log.phase t.0)) t.1 out)
    (or_cases (is_logged v w) (is_redone v w) e)

-- what the seal holds and whether there are entries are said by the entries and the phase
pub seal_again : (phase : Phase) (v v' : View) → v'.log.entries ≡ v.log.entries → seal_in phase v' ≡ seal_in phase v
seal_again Idle v v' same = refl
seal_again (Open slot pair) v v' same = refl
seal_again Drawn v v' same = refl
seal_again Sealing v v' same = ap length same
seal_again (Applying applied) v v' same = ap length same
seal_again Clearing v v' same = refl
seal_again Retiring v v' same = refl

pub none_again : (phase : Phase) (v v' : View) → v'.log.entries ≡ v.log.entries → HasNone phase v → HasNone phase v'
none_again Idle v v' same none = same ∙ none
none_again (Open slot pair) v v' same none = tt
none_again Drawn v v' same none = tt
none_again Sealing v v' same none = tt
none_again (Applying applied) v v' same none = tt
none_again Clearing v v' same none = tt
none_again Retiring v v' same none = same ∙ none

-- the entries stand where they stood, in a view of the lane with the same entries
module _ (v v' : View) (lane : v'.lane ≡ v.lane) (entries : v'.log.entries ≡ v.log.entries)
    (pairs : (w : ℕ) → 520 + 1024 * v.lane ≤ w → w < 648 + 1024 * v.lane → slice_index v'.words w ≡ slice_index v.words w)
    (written : (w : ℕ) → IsTrue (is_written v w) → IsTrue (is_written v' w))
    (alone : (i : ℕ) (f : Final) → IsEntryAt v i f → EntersAlone v f.word → IsTrue (is_written v' f.word) ⊎ EntersAlone v' f.word) where
  enterable_again : (i : ℕ) (f : Final) → IsEntryAt v i f → (op : Op) (x : ℕ) → IsEnterable v op f.word x → IsEnterable v' op f.word x
  enterable_again i f at op x may = record {
    of = ⊎_elim (λ (own : IsTrue (is_written v f.word)). inl (written f.word own)) (λ (other : ((f.word ≡ area_word v.lane) × (op ≡ Set)) ⊎ EntersAlone v f.word).
        ⊎_elim (λ (generation : (f.word ≡ area_word v.lane) × (op ≡ Set)). inr (inl (generation.0 ∙ ap area_word (sym lane), generation.1)))
        (λ (free : EntersAlone v f.word). ⊎_elim (λ (own : IsTrue (is_written v' f.word)). inl own) (λ (still : EntersAlone v' f.word). inr (inr still)) (alone i f at free)) other) may.of;
    word = may.word;
  }

  pair_again : (i : ℕ) → i < 64 → pair_at v' i ≡ pair_at v i
  pair_again i low =
      let first : slice_index v'.words (entry_word v'.lane i) ≡ slice_index v.words (entry_word v.lane i) = ap (λ l. slice_index v'.words (entry_word l i)) lane ∙ pairs (entry_word v.lane i) (omega arith) (omega arith) in
      let second : slice_index v'.words (entry_word v'.lane i + 1) ≡ slice_index v.words (entry_word v.lane i + 1) = ap (λ l. slice_index v'.words (entry_word l i + 1)) lane ∙ pairs (entry_word v.lane i + 1) (omega arith) (omega arith) in
      λ j. first j ∷ second j ∷ []

  pub stands_again : (i : ℕ) (f : Final) → i < 64 → IsEntryAt v i f → EntryStands v i f → EntryStands v' i f
  stands_again i f low at fits = record { op = fits.op; value = fits.value; is = fits.is; may = enterable_again i f at fits.op fits.value fits.may; spells = pair_again i low ∙ fits.spells }

  -- with another seal
  pub entries_sealed : slice_index v'.words (area_word v'.lane + 1) ≡ seal_in v'.log.phase v' → HasNone v'.log.phase v' → EntriesFit v → EntriesFit v'
  entries_sealed seal none fits = record {
    most = let few = fits.most in let same = ap length entries in omega arith;
    each = λ i f there.
        let before : IsEntryAt v i f = ap (λ fs. slice_get fs i) (sym entries) ∙ there in
        let low = slice_get_within v.log.entries i f before in let few = fits.most in
        stands_again i f (omega arith) before (fits.each i f before);
    seal = seal;
    none = none;
  }

  pub whole_again : (generation : ℕ) → AreWhole v generation → AreWhole v' generation
  whole_again generation whole = record {
    front = whole.front;
    are = entries ∙ (whole.are ∙ ap (λ l. whole.front ++ set_word (area_word l) generation ∷ []) (sym lane));
    owned = All-weaker (λ (f : Final). IsTrue (is_written v f.word)) (λ (f : Final). IsTrue (is_written v' f.word)) (λ f own. written f.word own) whole.front whole.owned;
  }

  -- in the same phase
  pub entries_again : v'.log.phase ≡ v.log.phase → slice_index v'.words (area_word v.lane + 1) ≡ slice_index v.words (area_word v.lane + 1) → EntriesFit v → EntriesFit v'
  entries_again phase seal fits = entries_sealed
      (ap (λ l. slice_index v'.words (area_word l + 1)) lane ∙ (seal ∙ (fits.seal ∙ (sym (seal_again v.log.phase v v' entries) ∙ ap (λ p. seal_in p v') (sym phase)))))
      (subst (λ p. HasNone p v') (sym phase) (none_again v.log.phase v v' entries fits.none)) fits

-- a log without entries, in a view with this seal
pub no_entries : (v v' : View) → v'.log.entries ≡ [] → slice_index v'.words (area_word v'.lane + 1) ≡ slice_index v.words (area_word v.lane + 1) → slice_index v.words (area_word v.lane + 1) ≡ seal_in v'.log.phase v' → HasNone v'.log.phase v' → EntriesFit v'
no_entries v v' empty same seal none = record {
  most = let e = ap length empty in omega arith;
  each = λ i f there. absurd (none-some f (sym (ap (λ fs. slice_get fs i) empty) ∙ there));
  seal = same ∙ seal;
  none = none;
}

-- where the log is in a phase that redoes nothing
pub none_redone : (v : View) (w : ℕ) → is_redoing v.log.phase ≡ false → is_redone v w ≡ false
none_redone v w none = ap (λ b. b && is_entered v.log.entries w) none

pub applied_again : (phase : Phase) (v v' : View) → v'.log.entries ≡ v.log.entries → applied_in phase v' ≡ applied_in phase v
applied_again Idle v v' same = ap length same
applied_again (Open slot pair) v v' same = ap length same
applied_again Drawn v v' same = ap length same
applied_again Sealing v v' same = ap length same
applied_again (Applying applied) v v' same = refl
applied_again Clearing v v' same = ap length same
applied_again Retiring v v' same = ap length same

-- a word that the log would redo, of another memory and history
pub redone_kept : (mem mem' : Memory) (settled settled' : ℕ → ℕ) (v : View) (w : ℕ) → mem' (PoolWord w) ≡ mem (PoolWord w) → settled' w ≡ settled w → RedoneWord mem settled v w → RedoneWord mem' settled' v w
redone_kept mem mem' settled settled' v w same settles fits = record {
  again = λ x agree. fits.again x (λ i low beside. agree i low beside ∙ ap (λ n. bit_at n i) settles) ∙ sym settles;
  rest = ap (made_final (drop (applied_in v.log.phase v) v.log.entries) w) same ∙ (fits.rest ∙ sym settles);
}

-- and of another view with the same log
pub redone_again : (mem : Memory) (settled : ℕ → ℕ) (v v' : View) (w : ℕ) → v'.log ≡ v.log → RedoneWord mem settled v w → RedoneWord mem settled v' w
redone_again mem settled v v' w same fits = record {
  again = λ x agree. ap (λ (l : Log). made_final l.entries w x) same ∙ fits.again x (λ i low beside. agree i low (ap (λ (l : Log). is_bit_entered l.entries w i) same ∙ beside));
  rest = ap (λ n. made_final (drop n v'.log.entries) w (mem (PoolWord w))) (ap (λ (l : Log). applied_in l.phase v') same ∙ applied_again v.log.phase v v' (ap (λ (l : Log). l.entries) same))
      ∙ (ap (λ (l : Log). made_final (drop (applied_in v.log.phase v) l.entries) w (mem (PoolWord w))) same ∙ fits.rest);
}

-- the word is in no log still
pub in_log_before : (v v' : View) (w : ℕ) → (is_logged v w ≡ true → is_logged v' w ≡ true) → (is_redone v w ≡ true → is_redone v' w ≡ true) → is_in_log v' w ≡ false → is_in_log v w ≡ false
in_log_before v v' w logged redone none =
    let t = or_parts (is_logged v' w) (is_redone v' w) none in
    or_from (is_logged v w) (is_redone v w) (false_from_ne_true (is_logged v w) (λ e. false≢true (sym t.0 ∙ logged e))) (false_from_ne_true (is_redone v w) (λ e. false≢true (sym t.1 ∙ redone e)))

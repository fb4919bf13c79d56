-- What the steps keep that make a chunk a run or a block a new object, as many of them as were made: the call, its log and its locks, and each other word.
use Rattle.std.proofs.Common.{◌≡◌, ◌⊎◌, ⊎_elim, inl, inr, ℕ, ◌/◌, Bool, is_some, true, false, cond, eqb, not, Contains, List, [], ◌∷◌, slice_index, refl, sym, ap, ◌∙◌, subst}
use Rattle.std.specs.List.{filter}
use Rattle.std.proofs.lemmas.List.{get_or-set_other}
use Rattle.std.proofs.lemmas.List.Elements.{Contains-push_cases}
use Rattle.pm_image.proofs.Members.{first_member, later_member, member_cases, no_member}
use Rattle.solo_view.specs.declared.change.Change.{Change}
use Rattle.solo_view.specs.Area.{is_in_area, part_of}
use Rattle.solo_view.specs.Changes.{drained, flushed, mark, store_change}
use Rattle.solo_view.specs.Log.{Log, Phase, log_drained, log_stored}
use Rattle.solo_view.specs.Log.Phase.{Open}
use Rattle.solo_view.proofs.SameLane.{same_lane-after}
use Rattle.solo_view.specs.Steps.{Step}
use Rattle.solo_view.specs.Steps.Step.{Store, Flush, Drain, Vacate}
use Rattle.solo_view.specs.View.{View}
use Rattle.solo_view.specs.Views.{after, after_all, log_after_drain}
use Rattle.solo_undo.proofs.Areas.{other_part}
use Rattle.solo_tx.proofs.StepKinds.{Each}
use Rattle.solo_transaction.proofs.MakingKinds.{IsMaking}

-- some change of a word is among these
abbrev pub HasChangeOf : List Change → ℕ → Type 0
HasChangeOf changes w = (d : Change) × Contains changes d × (d.word ≡ w)

-- the lane is at the same call; and no word changed, nor has an undrained change that had none, but for those of this kind
pub record Keeps (K : ℕ → Type 0) (v w : View) : Type 0 where
  pub call : w.call ≡ v.call
  pub entries : w.entries ≡ v.entries
  pub number : w.number ≡ v.number
  pub log : w.log ≡ v.log
  pub locks : w.locks ≡ v.locks
  pub words : (i : ℕ) → (K i → ⊥) → slice_index w.words i ≡ slice_index v.words i
  pub changes : (c : Change) → Contains w.changes c → K c.word ⊎ HasChangeOf v.changes c.word

-- ---- changes that are flushed and drained

filtered_member : (p : Change → Bool) (xs : List Change) (c : Change) → Contains (filter p xs) c → Contains xs c
filtered_member p [] c = λ there. there
filtered_member p (x ∷ xs) c = at (p x) (filtered_member p xs c) where
  at : (b : Bool) → (Contains (filter p xs) c → Contains xs c) → Contains (cond b (x ∷ filter p xs) (filter p xs)) c → Contains (x ∷ xs) c
  at true rest there = ⊎_elim (λ (here : x ≡ c). subst (λ d. Contains (d ∷ xs) c) (sym here) (first_member c xs)) (λ (later : Contains (filter p xs) c). later_member x xs c (rest later)) (member_cases x (filter p xs) c there)
  at false rest there = later_member x xs c (rest there)

marked_word : (line : ℕ) (c : Change) → (mark line c).word ≡ c.word
marked_word line c = at (eqb (c.word / 8) line) where
  at : (b : Bool) → (let d : Change = cond b (record c { flushed = true }) c in d.word) ≡ c.word
  at true = refl
  at false = refl

flushed_member : (line : ℕ) (xs : List Change) (c : Change) → Contains (flushed line xs) c → HasChangeOf xs c.word
flushed_member line [] c there = absurd (no_member c there)
flushed_member line (x ∷ xs) c there = ⊎_elim
    (λ (here : mark line x ≡ c). (x, first_member x xs, sym (marked_word line x) ∙ ap (λ (d : Change). d.word) here))
    (λ (later : Contains (flushed line xs) c). let t = flushed_member line xs c later in (t.0, later_member x xs t.0 t.1, t.2))
    (member_cases (mark line x) (flushed line xs) c there)

-- ---- one step

module _ (K : ℕ → Type 0) where
  pub keeps_none : (v : View) → Keeps K v v
  keeps_none v = record { call = refl; entries = refl; number = refl; log = refl; locks = refl; words = λ i other. refl; changes = λ c there. inr (c, there, refl) }

  pub keeps_then : (u v w : View) → Keeps K u v → Keeps K v w → Keeps K u w
  keeps_then u v w first second = record {
    call = second.call ∙ first.call;
    entries = second.entries ∙ first.entries;
    number = second.number ∙ first.number;
    log = second.log ∙ first.log;
    locks = second.locks ∙ first.locks;
    words = λ i other. second.words i other ∙ first.words i other;
    changes = λ c there. ⊎_elim
        (λ (kind : K c.word). inl kind)
        (λ (old : HasChangeOf v.changes c.word). subst (λ w. K w ⊎ HasChangeOf u.changes w) old.2 (first.changes old.0 old.1))
        (second.changes c there);
  }

  module _ (outside : (w : ℕ) → K w → is_in_area 0 w ≡ false) where
    log_same : (v : View) (w x : ℕ) → v.lane ≡ 0 → v.log.phase ≡ Open [] [] → K w → log_stored v.log.phase (part_of v.lane w) x v.log ≡ v.log
    log_same v w x lane opens is = λ j. log_stored (opens j) ((ap (λ n. part_of n w) lane ∙ other_part 0 w (outside w is)) j) x v.log

    drained_same : (changes : List Change) (v : View) → v.log.phase ≡ Open [] [] → log_after_drain changes v ≡ v.log
    drained_same [] v opens = ap (λ (p : Phase). log_drained p (is_some v.number) v.log) opens
    drained_same (c ∷ changes) v opens = refl

    keeps_one : (v : View) (s : Step) → v.lane ≡ 0 → v.log.phase ≡ Open [] [] → IsMaking K s → Keeps K v (after v s)
    keeps_one v (Store w x) lane opens is = record {
      call = refl;
      entries = refl;
      number = refl;
      log = log_same v w x lane opens is;
      locks = refl;
      words = λ i other. get_or-set_other v.words w i x 0 (λ (same : i ≡ w). other (subst K (sym same) is));
      changes = λ c there. ⊎_elim
          (λ (before : Contains v.changes c). inr (c, before, refl))
          (λ (new : store_change w (slice_index v.words w) x ≡ c). inl (subst (λ (d : Change). K d.word) new is))
          (Contains-push_cases v.changes (store_change w (slice_index v.words w) x) c there);
    }
    keeps_one v (Flush line) lane opens is = record {
      call = refl;
      entries = refl;
      number = refl;
      log = refl;
      locks = refl;
      words = λ i other. refl;
      changes = λ c there. inr (flushed_member line v.changes c there);
    }
    keeps_one v Drain lane opens is = record {
      call = refl;
      entries = refl;
      number = refl;
      log = drained_same (drained v.changes) v opens;
      locks = refl;
      words = λ i other. refl;
      changes = λ c there. inr (c, filtered_member (λ (d : Change). not d.flushed) v.changes c there, refl);
    }
    keeps_one v (Vacate at bits) lane opens is = record { call = refl; entries = refl; number = refl; log = refl; locks = refl; words = λ i other. refl; changes = λ c there. inr (c, there, refl) }
    keeps_one v s lane opens is = absurd is

    lane_one : (v : View) (s : Step) → (after v s).lane ≡ v.lane
    lane_one v s = (same_lane-after v s).lane

    pub keeps_all : (v : View) (steps : List Step) → v.lane ≡ 0 → v.log.phase ≡ Open [] [] → Each (IsMaking K) steps → Keeps K v (after_all v steps)
    unfolding Each after_all
    keeps_all v [] lane opens each = keeps_none v
    keeps_all v (s ∷ steps) lane opens each =
        let m : View = after v s in
        let one : Keeps K v m = keeps_one v s lane opens each.0 in
        keeps_then v m (after_all m steps) one (keeps_all m steps (lane_one v s ∙ lane) (ap (λ (l : Log). l.phase) one.log ∙ opens) each.1)

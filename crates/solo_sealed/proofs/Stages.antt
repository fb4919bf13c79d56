-- What a lane that is alone has of the words while it publishes its redo log, by how far that has come.
use Rattle.std.proofs.Common.{◌≡◌, ◌≢◌, ℕ, zero, suc, ◌+◌, ◌^◌, ◌<◌, ⊎_elim, Bool, true, false, cond, eqb, All, List, [], ◌∷◌, length, take, slice_index, sym, ap, ◌∙◌, subst}
use Rattle.std.proofs.lemmas.Bool.{cases_Bool, cond-true, cond-false, eqb-true}
use Rattle.std.proofs.lemmas.List.Elements.{All-head, All-map, All-tail, All-weaker}
use Rattle.solo_view.specs.declared.change.Change.{Change}
use Rattle.solo_view.specs.Area.{area_word}
use Rattle.solo_view.specs.Bits.{all_bits, with_bits}
use Rattle.solo_view.specs.Changes.{flushed, is_in_line, mark}
use Rattle.solo_view.specs.Log.{Final, Phase}
use Rattle.solo_view.specs.Log.Phase.{Applying, Clearing, Drawn, Idle, Open, Retiring, Sealing}
use Rattle.solo_view.specs.View.{View}
use Rattle.solo_world.specs.Entries.{LeaveWord, is_entered}
use Rattle.solo_world.specs.Fits.{IsOfEntries, SealChange}
use Rattle.solo_world.specs.History.{made_final}
use Rattle.solo_world.specs.Records.{generation_of}
use Rattle.solo_world.proofs.MadeBits.{with_bits-lt}

abbrev pub entries : View → List Final
entries b = b.log.entries

-- a change of a word of the first so many entries, and of bits that entries are of; one of the lane's generation found the present one there
pub record AppliedOf (b : View) (applied : ℕ) (c : Change) : Type 0 where
  pub of : is_entered (take applied (entries b)) c.word ≡ true
  pub bits : IsOfEntries (entries b) c
  pub ends : c.word ≡ area_word b.lane → (c.mask ≡ all_bits) × (c.old ≡ generation_of b)

module _ (b : View) where
  abbrev pub seal_at : ℕ
  seal_at = area_word b.lane + 1

  -- word w as the first so many (entries b) leave it
  abbrev pub made : ℕ → ℕ → ℕ
  made applied w = made_final (take applied (entries b)) w (slice_index b.words w)

  pub record AtDrawn (v : View) : Type 0 where
    pub entered : v.log.entries ≡ entries b
    pub words : (w : ℕ) → slice_index v.words w ≡ slice_index b.words w
    pub drained : v.changes ≡ []

  pub record AtSealing (v : View) : Type 0 where
    pub entered : v.log.entries ≡ entries b
    pub words : (w : ℕ) → w ≢ seal_at → slice_index v.words w ≡ slice_index b.words w
    pub seal : slice_index v.words seal_at ≡ length (entries b)
    pub changes : All (SealChange b 0) v.changes

  pub record AtApplying (applied : ℕ) (v : View) : Type 0 where
    pub entered : v.log.entries ≡ entries b
    pub words : (w : ℕ) → w ≢ seal_at → slice_index v.words w ≡ made applied w
    pub seal : slice_index v.words seal_at ≡ length (entries b)
    pub changes : All (AppliedOf b applied) v.changes

  pub record AtClearing (v : View) : Type 0 where
    pub entered : v.log.entries ≡ entries b
    pub words : (w : ℕ) → w ≢ seal_at → slice_index v.words w ≡ made_final (entries b) w (slice_index b.words w)
    pub seal : slice_index v.words seal_at ≡ 0
    pub changes : All (SealChange b (length (entries b))) v.changes

  pub record AtIdle (v : View) : Type 0 where
    pub words : (w : ℕ) → w ≢ seal_at → slice_index v.words w ≡ made_final (entries b) w (slice_index b.words w)
    pub seal : slice_index v.words seal_at ≡ 0
    pub drained : v.changes ≡ []

  abbrev pub Stage : View → Phase → Type 0
  Stage v Drawn = AtDrawn v
  Stage v Sealing = AtSealing v
  Stage v (Applying applied) = AtApplying applied v
  Stage v Clearing = AtClearing v
  Stage v Idle = AtIdle v
  Stage v phase = ⊥

  -- the view is of the lane's pool, and at its stage
  pub record IsAtStage (v : View) : Type 0 where
    pub lanes : v.lanes ≡ b.lanes
    pub zones : v.zones ≡ b.zones
    pub lane : v.lane ≡ b.lane
    pub size : length v.words ≡ length b.words
    pub stage : Stage v v.log.phase

  -- a view with the same words, changes and log is at the same stage
  pub still : (phase : Phase) (v w : View) → w.changes ≡ v.changes → w.log ≡ v.log → ((i : ℕ) → slice_index w.words i ≡ slice_index v.words i) → Stage v phase → Stage w phase
  still Drawn v w changes log same s = record { entered = ap (λ l. l.entries) log ∙ s.entered; words = λ i. same i ∙ s.words i; drained = changes ∙ s.drained }
  still Sealing v w changes log same s = record { entered = ap (λ l. l.entries) log ∙ s.entered; words = λ i other. same i ∙ s.words i other; seal = same seal_at ∙ s.seal; changes = subst (All (SealChange b 0)) (sym changes) s.changes }
  still (Applying applied) v w changes log same s =
      record { entered = ap (λ l. l.entries) log ∙ s.entered; words = λ i other. same i ∙ s.words i other; seal = same seal_at ∙ s.seal; changes = subst (All (AppliedOf b applied)) (sym changes) s.changes }
  still Clearing v w changes log same s =
      record { entered = ap (λ l. l.entries) log ∙ s.entered; words = λ i other. same i ∙ s.words i other; seal = same seal_at ∙ s.seal; changes = subst (All (SealChange b (length (entries b)))) (sym changes) s.changes }
  still Idle v w changes log same s = record { words = λ i other. same i ∙ s.words i other; seal = same seal_at ∙ s.seal; drained = changes ∙ s.drained }
  still (Open slot pair) v w changes log same s = absurd s
  still Retiring v w changes log same s = absurd s

-- ---- a flush and a drain leave changes what they are

flushed_seal : (b : View) (old : ℕ) (c : Change) (marked : Bool) → SealChange b old c → SealChange b old (cond marked (record c { flushed = true }) c)
flushed_seal b old c true of = record { whole = of.whole; of = of.of; before = of.before }
flushed_seal b old c false of = of

pub seals_flushed : (b : View) (old line : ℕ) (changes : List Change) → All (SealChange b old) changes → All (SealChange b old) (flushed line changes)
seals_flushed b old line changes all =
    All-map (SealChange b old) (mark line) changes (All-weaker (SealChange b old) (λ c. SealChange b old (mark line c)) (λ c of. flushed_seal b old c (is_in_line line c) of) changes all)

flushed_applied : (b : View) (applied : ℕ) (c : Change) (marked : Bool) → AppliedOf b applied c → AppliedOf b applied (cond marked (record c { flushed = true }) c)
flushed_applied b applied c true of = record { of = of.of; bits = record { mask = of.bits.mask; bits = of.bits.bits; small = of.bits.small }; ends = of.ends }
flushed_applied b applied c false of = of

pub applied_flushed : (b : View) (applied line : ℕ) (changes : List Change) → All (AppliedOf b applied) changes → All (AppliedOf b applied) (flushed line changes)
applied_flushed b applied line changes all =
    All-map (AppliedOf b applied) (mark line) changes (All-weaker (AppliedOf b applied) (λ c. AppliedOf b applied (mark line c)) (λ c of. flushed_applied b applied c (is_in_line line c) of) changes all)

-- ---- what entries make of a word of 64 bits is one still

pub made_small : (n : ℕ) (fs : List Final) (w x : ℕ) → x < 2 ^ 64 → LeaveWord fs w → made_final (take n fs) w x < 2 ^ 64
unfolding made_final
made_small zero fs w x low leave = low
made_small (suc n) [] w x low leave = low
made_small (suc n) (f ∷ fs) w x low leave =
    made_small n fs w (cond (eqb f.word w) (with_bits f.mask f.bits x) x)
    (⊎_elim
    (λ (here : eqb f.word w ≡ true). subst (λ y. y < 2 ^ 64) (sym (cond-true (eqb f.word w) (with_bits f.mask f.bits x) x here)) (with_bits-lt f.mask f.bits x (All-head Leaves f fs leave (eqb-true f.word w here))))
    (λ (other : eqb f.word w ≡ false). subst (λ y. y < 2 ^ 64) (sym (cond-false (eqb f.word w) (with_bits f.mask f.bits x) x other)) low)
    (cases_Bool (eqb f.word w)))
    (All-tail Leaves f fs leave)
  where
    Leaves : Final → Type 0
    Leaves g = g.word ≡ w → g.bits < 2 ^ 64

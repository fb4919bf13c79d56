-- EACH STEP OF A LANE and the root word: it holds the guards of what it makes of the word, and but for a
-- load it has seen no more of it.
use Rattle.std.proofs.Common.{◌≡◌, ◌≢◌, ◌⊎◌, inl, inr, ⊎_elim, ℕ, zero, suc, ◌+◌, ◌*◌, ◌/◌, ◌<◌, ◌==◌, ◌&&◌, ◌||◌, not, Bool, true, false, cond, All, List, [], ◌∷◌, ◌++◌, length, take, Option, None, Some, refl, sym, ap, ◌∙◌, subst, arith, bit_and, bit_or}
use Rattle.std.specs.Prelude.{IfSome, IsSomeAnd, slice_index}
use Rattle.std.proofs.lemmas.Bool.{and_parts, both_ways, cases_Bool, cond-false, cond-true, eqb-true, false_from_ne_true, or_left, or_right}
use Rattle.std.proofs.lemmas.List.Elements.{All-append, All-cons, All-head, All-nil, All-tail}
use Rattle.pm_layout.specs.declared.shape.Shape.{Shape}
use Rattle.pm_layout.specs.Areas.{word_of_generation}
use Rattle.pm_record.specs.Redo.{op_code}
use Rattle.pm_record.specs.declared.redo.Op.{Op}
use Rattle.pm_record.specs.declared.redo.Op.TheVariants as op
use Rattle.pm_view.specs.Changes.{Undrained, drained}
use Rattle.pm_view.specs.Claims.{Claim, Took, Raised, Gave, Reserved, Released, Drained, Knows, class, holds, is_held, is_held_at, locked, pictured, reads}
use Rattle.pm_view.specs.Entries.{Entry, redos}
use Rattle.pm_view.specs.Founds.{FindsKnown, knows}
use Rattle.pm_view.specs.Log.{Phase, Idle, Open, Drawn, Sealing, Applying, Clearing, Retiring, Voiding, Log, entered, is_early, log_changed, log_drained, log_stored, new_log, place_at, recorded, with_pair, with_slot}
use Rattle.pm_view.specs.Parts.{Part, GenerationPart, SealPart, EntryPart, SlotPart, RootPart, DescriptorPart, ChunkPart, OtherPart}
use Rattle.pm_view.specs.Places.{Place, RootWord}
use Rattle.pm_view.specs.Steps.{Step}
use Rattle.pm_view.specs.Steps.Step.{Load, Store, Or, And, Flush, Drain, TakeWrite, TakeRead, Raise, Give, ZoneTry, ZoneGive, Occupied, Occupy, Vacate, Draw, NumberSeen, StopSeen, SetStop, Tell}
use Rattle.pm_view.specs.View.{View, runs_one}
use Rattle.pm_view.specs.Views.{after, begun, claims_drained, decided_by, learned, log_left, marked_by, part_in, seen_by, with_seen}
use Rattle.pm_world.specs.States.{root_line}
use Rattle.pm_world.specs.Sights.{sight_of}
use Rattle.pm_world.specs.Lanes.{all_held, is_decided}
use Rattle.pm_world.specs.Lawful.{AppendsToPair, ChangeFits, EntersWord, GiveFits, IsLawful, IsNext, MayChange, MayStore, StoreFits}
use Rattle.pm_world.specs.Logs.{PhaseFits}
use Rattle.pm_world.specs.Memory.{Memory}
use Rattle.pm_world.specs.World.{Opening, Views, Past, World}
use Rattle.pm_world.proofs.EntriesAtPlaces.{Stands, log_stands, of_place}
use Rattle.pm_world.proofs.Locks.{all_more}
use Rattle.pm_crash.specs.Roots.{HoldsGuards, HoldsItsRoots, HoldsRoots, leaves_root, saw_root, sets_root}
use Rattle.pm_crash.proofs.RootClaims.{IsAlike, IsNew, knows_root, marked_alike, plain_claim, root_part, same_claims, seen_alike, setting, is_plain}
use Rattle.pm_crash.proofs.Roots.{some_known}
use Rattle.pm_crash.proofs.RunClasses.{stands_among}

all_so : {A : Type 0} (P Q : A → Type 0) → ((e : A) → P e → Q e) → (es : List A) → All P es → All Q es
all_so P Q f [] a = All-nil Q
all_so P Q f (e ∷ es) a = All-cons Q e es (f e (All-head P e es a)) (all_so P Q f es (All-tail P e es a))

-- what is held of an entry of the root word
abbrev Holding : Shape → List Claim → Entry → Type 0
Holding sh t e = e.place ≡ Some RootWord → HoldsRoots sh t e.value

-- ---- WHAT IS HELD, BY CLAIMS

pub guards_alike : (sh : Shape) (t t' : List Claim) (n : ℕ) → IsAlike sh t t' → HoldsGuards t n → HoldsGuards t' n
guards_alike sh t t' n a = all_more (locked t) (locked t') a.locks (0 ∷ root_line n)

some_more : (d d' : Option ℕ) (P Q : ℕ → Type 0) → d' ≡ d → ((n : ℕ) → P n → Q n) → IsSomeAnd d P → IsSomeAnd d' Q
some_more d d' P Q e f h = subst (λ z. IsSomeAnd z Q) (sym e) (go d h)
  where
    go : (z : Option ℕ) → IsSomeAnd z P → IsSomeAnd z Q
    go None h = h
    go (Some n) h = f n h

first_guard : (t : List Claim) (n : ℕ) → HoldsGuards t n → locked t 0 ≡ true
first_guard t n h = (and_parts (locked t 0) (all_held (locked t) (root_line n)) h).0

roots_alike : (sh : Shape) (t t' : List Claim) (n : ℕ) → IsAlike sh t t' → HoldsRoots sh t n → HoldsRoots sh t' n
roots_alike sh t t' n a h = (
  guards_alike sh t t' n a h.0,
  some_more (pictured sh t 64) (pictured sh t' 64) (HoldsGuards t) (HoldsGuards t') a.word (λ m. guards_alike sh t t' m a) h.1,
)

-- where an entry sets the word its lane holds line 0
setting_locks : (sh : Shape) (t : List Claim) (log : Log) → HoldsItsRoots sh t log → sets_root (redos log.entries) ≡ true → locked t 0 ≡ true
setting_locks sh t log h s = let e = setting (λ (e : Entry). HoldsRoots sh t e.value) log.entries h.entered s in first_guard t e.0.value e.1.0

-- neither a load nor a draw
abbrev pub is_other : Step → Bool
is_other (Load w found) = false
is_other (Draw n) = false
is_other s = true

-- ---- STEPS, BY WHAT THEY DO TO CLAIMS AND LOG

-- nothing more is seen
abbrev pub IsLess : Shape → List Claim → Log → List Claim → Log → Type 0
IsLess sh t log t' log' = leaves_root log' ≡ true → (line x : ℕ) → saw_root sh t' line x ≡ true
    → (leaves_root log ≡ true) × (saw_root sh t line x ≡ true)

pub record Own (sh : Shape) (t : List Claim) (log : Log) (t' : List Claim) (log' : Log) : Type 0 where
  pub holds_ : HoldsItsRoots sh t' log'
  pub less : IsLess sh t log t' log'

own_same : (sh : Shape) (t : List Claim) (log : Log) → HoldsItsRoots sh t log → Own sh t log t log
own_same sh t log h = record { holds_ = h; less = λ l line x s. (l, s) }

own_alike : (sh : Shape) (t t' : List Claim) (log : Log) → IsAlike sh t t' → HoldsItsRoots sh t log → Own sh t log t' log
own_alike sh t t' log a h = record {
  holds_ = record {
    entered = all_so (Holding sh t) (Holding sh t') (λ e y p. roots_alike sh t t' e.value a (y p)) log.entries h.entered;
    dropped = λ d s line x. a.saw line x ∙ h.dropped d s line x;
  };
  less = λ l line x s. (l, sym (a.saw line x) ∙ s);
}

own_plain : (sh : Shape) (e : Claim) (t : List Claim) (log : Log) → is_plain e ≡ true → HoldsItsRoots sh t log → Own sh t log (e ∷ t) log
own_plain sh e t log p h = own_alike sh t (e ∷ t) log (plain_claim sh e t p) h

-- a lock is taken
own_took : (sh : Shape) (m : ℕ) (write : Bool) (t : List Claim) (log : Log) → holds t m ≡ false → HoldsItsRoots sh t log
    → Own sh t log (Took m write ∷ t) log
own_took sh m write t log free h = record {
  holds_ = record {
    entered = all_so (Holding sh t) (Holding sh (Took m write ∷ t)) (λ e y p. by e.value (y p)) log.entries h.entered;
    dropped = λ d s line x. false_from_ne_true (not (m == line) && saw_root sh t line x) (λ q.
        both_ways (saw_root sh t line x) (h.dropped d s line x) (and_parts (not (m == line)) (saw_root sh t line x) q).1);
  };
  less = λ l line x s. (l, (and_parts (not (m == line)) (saw_root sh t line x) s).1);
}
  where
    more : (n : ℕ) → HoldsGuards t n → HoldsGuards (Took m write ∷ t) n
    more n = all_more (locked t) (locked (Took m write ∷ t)) (λ l e. or_right (write && (m == l)) (locked t l) e) (0 ∷ root_line n)

    other : locked t 0 ≡ true → (m == 0) ≡ false
    other k = false_from_ne_true (m == 0) (λ e. both_ways (holds t m) free
        (or_left (locked t m) (reads t m) (subst (λ l. locked t l ≡ true) (sym (eqb-true m 0 e)) k)))

    by : (n : ℕ) → HoldsRoots sh t n → HoldsRoots sh (Took m write ∷ t) n
    by n r = (
      more n r.0,
      some_more (pictured sh t 64) (pictured sh (Took m write ∷ t) 64) (HoldsGuards t) (HoldsGuards (Took m write ∷ t))
          (ap (λ q. cond (q && true) None (pictured sh t 64)) (other (first_guard t n r.0))) more r.1,
    )

-- where no entry sets the word there is nothing to hold
pub bare : (sh : Shape) (t : List Claim) (log : Log) → All (λ (e : Entry). e.place ≢ Some RootWord) log.entries → HoldsItsRoots sh t log
bare sh t log none = record {
  entered = λ i e at p. absurd (none i e at p);
  dropped = λ d s line x. absurd (setting (λ (e : Entry). ⊥) log.entries (λ i e at p. none i e at p) s).1;
}

pub no_entries : (es : List Entry) → es ≡ [] → All (λ (e : Entry). e.place ≢ Some RootWord) es
no_entries es e = subst (λ z. All (λ (e : Entry). e.place ≢ Some RootWord) z) (sym e) (All-nil (λ (e : Entry). e.place ≢ Some RootWord))

-- a word becomes known, by a load or by a store
module _ (sh : Shape) (t t' : List Claim) (log : Log) (a : IsAlike sh t t') (w y : ℕ)
    (k : (w == 64) ≡ true → (n : ℕ) → HoldsRoots sh t n → HoldsGuards t y) (h : HoldsItsRoots sh t log) where
  more : (n : ℕ) → HoldsGuards t n → HoldsGuards t' n
  more n = guards_alike sh t t' n a

  known_root : (n : ℕ) → HoldsRoots sh t n → HoldsRoots sh (Knows w y ∷ t') n
  known_root n r = (more n r.0, by (w == 64) refl)
    where
      by : (q : Bool) → (w == 64) ≡ q → IsSomeAnd (cond (w == 64) (Some y) (pictured sh t' 64)) (HoldsGuards t')
      by true e = subst (λ z. IsSomeAnd z (HoldsGuards t')) (sym (cond-true (w == 64) (Some y) (pictured sh t' 64) e)) (more y (k e n r))
      by false e = subst (λ z. IsSomeAnd z (HoldsGuards t')) (sym (cond-false (w == 64) (Some y) (pictured sh t' 64) e))
          (some_more (pictured sh t 64) (pictured sh t' 64) (HoldsGuards t) (HoldsGuards t') a.word more r.1)

  pub known_holds : HoldsItsRoots sh (Knows w y ∷ t') log
  known_holds = record {
    entered = all_so (Holding sh t) (Holding sh (Knows w y ∷ t')) (λ e z p. known_root e.value (z p)) log.entries h.entered;
    dropped = λ d s line x. false_from_ne_true (saw_root sh (Knows w y ∷ t') line x) (λ q. knows_root sh w y t' line x ⊥ q
        (λ n. both_ways (not (locked t' 0)) (ap not (a.locks 0 (setting_locks sh t log h s))) n.free)
        (λ o. both_ways (saw_root sh t line x) (h.dropped d s line x) (sym (a.saw line x) ∙ o)));
  }

  -- of a store, that holds line 0 where it is of the root word, nothing more is seen
  own_known : ((w == 64) ≡ true → locked t 0 ≡ true) → Own sh t log (Knows w y ∷ t') log
  own_known held = record {
    holds_ = known_holds;
    less = λ l line x s. (
      l,
      knows_root sh w y t' line x (saw_root sh t line x ≡ true) s
          (λ n. absurd (both_ways (not (locked t' 0)) (ap not (a.locks 0 (held n.word))) n.free))
          (λ o. sym (a.saw line x) ∙ o),
    );
  }

-- the log goes on
own_log : (sh : Shape) (t t' : List Claim) (log mid log' : Log) → mid.entries ≡ log'.entries → (is_decided log'.phase ≡ true → is_decided mid.phase ≡ true)
    → (leaves_root log' ≡ true → leaves_root mid ≡ true) → Own sh t log t' mid → Own sh t log t' log'
own_log sh t t' log mid log' same d leaves o = record {
  holds_ = record {
    entered = subst (λ es. All (λ (e : Entry). e.place ≡ Some RootWord → HoldsRoots sh t' e.value) es) same o.holds_.entered;
    dropped = λ q s line x. o.holds_.dropped (d q) (subst (λ es. sets_root (redos es) ≡ true) (sym same) s) line x;
  };
  less = λ l line x s. o.less (leaves l) line x s;
}

-- ---- LOGS, BY PHASE AND PART

slot_entries : (sh : Shape) (cl : ℕ → ℕ) (words : List ℕ) (log : Log) → (log.entries ≡ (with_slot sh cl words log).entries) × ((with_slot sh cl words log).phase ≡ log.phase)
slot_entries sh cl words log = by (length words == 8)
  where
    by : (q : Bool) → (log.entries ≡ (cond q (record log { records = log.records ++ recorded sh cl words ∷ []; slot = [] }) (record log { slot = words })).entries)
        × ((cond q (record log { records = log.records ++ recorded sh cl words ∷ []; slot = [] }) (record log { slot = words })).phase ≡ log.phase)
    by true = (refl, refl)
    by false = (refl, refl)

early_leaves : (log : Log) (ph : Phase) → log.phase ≡ ph → is_early ph ≡ true → leaves_root log ≡ true
early_leaves log ph e t = or_left (is_early log.phase) (not (sets_root (redos log.entries))) (ap is_early e ∙ t)

late_leaves : (log log' : Log) (ph ph' : Phase) → log.phase ≡ ph → log'.phase ≡ ph' → is_early ph ≡ false → is_early ph' ≡ false → log.entries ≡ log'.entries
    → leaves_root log' ≡ true → leaves_root log ≡ true
late_leaves log log' ph ph' e e' n n' same l =
    ap (λ q. q || not (sets_root (redos log.entries))) (ap is_early e ∙ n)
    ∙ (ap (λ es. not (sets_root (redos es))) same ∙ (sym (ap (λ q. q || not (sets_root (redos log'.entries))) (ap is_early e' ∙ n')) ∙ l))

module _ (sh : Shape) (t t' : List Claim) (log : Log) (o : Own sh t log t' log) where
  -- a store that leaves the phase
  still : (log' : Log) → log.entries ≡ log'.entries → log'.phase ≡ log.phase → Own sh t log t' log'
  still log' same ph = own_log sh t t' log log log' same (λ d. ap is_decided (sym ph) ∙ d)
      (λ l. ap (λ q. is_early q || not (sets_root (redos log.entries))) (sym ph) ∙ (ap (λ es. is_early log'.phase || not (sets_root (redos es))) same ∙ l)) o

  -- from a late phase to a late one
  late : (log' : Log) (ph ph' : Phase) → log.phase ≡ ph → log'.phase ≡ ph' → is_early ph ≡ false → is_early ph' ≡ false
      → (is_decided ph' ≡ true → is_decided ph ≡ true) → log.entries ≡ log'.entries → Own sh t log t' log'
  late log' ph ph' e e' r r' d same = own_log sh t t' log log log' same (λ q. ap is_decided e ∙ d (sym (ap is_decided e') ∙ q))
      (late_leaves log log' ph ph' e e' r r' same) o

  changed : (ph : Phase) → log.phase ≡ ph → Own sh t log t' (log_changed ph log)
  changed (Applying todo) e = late (log_changed (Applying todo) log) (Applying todo) (Applying (Rattle.pm_view.specs.Log.rest_of todo)) e refl refl refl (λ q. refl) refl
  changed Idle e = o
  changed Open e = o
  changed (Drawn m) e = o
  changed (Sealing m) e = o
  changed Clearing e = o
  changed (Retiring m) e = o
  changed Voiding e = o

  -- a store, where one of an entry's word is answered for
  module _ (cl : ℕ → ℕ) (n : ℕ) (F : Phase → Part → Type 0) (enters : log.phase ≡ Open → F Open EntryPart → Own sh t log t' (with_pair sh cl log.pair n log)) where
    stored : (ph : Phase) (part : Part) → log.phase ≡ ph → F ph part → Own sh t log t' (log_stored sh cl ph part n log)
    stored Idle part e f = o
    stored Open GenerationPart e f = own_log sh t t' log log (log_stored sh cl Open GenerationPart n log) refl (λ q. absurd (both_ways false refl q)) (λ l. early_leaves log Open e refl) o
    stored Open SealPart e f = o
    stored Open EntryPart e f = enters e f
    stored Open SlotPart e f = let s = slot_entries sh cl (log.slot ++ n ∷ []) log in still (with_slot sh cl (log.slot ++ n ∷ []) log) s.0 s.1
    stored Open RootPart e f = o
    stored Open (DescriptorPart c) e f = o
    stored Open (ChunkPart c i) e f = o
    stored Open OtherPart e f = o
    stored (Drawn m) GenerationPart e f = late (log_stored sh cl (Drawn m) GenerationPart n log) (Drawn m) (Retiring m) e refl refl refl (λ q. q) refl
    stored (Drawn m) SealPart e f = late (log_stored sh cl (Drawn m) SealPart n log) (Drawn m) (Sealing m) e refl refl refl (λ q. q) refl
    stored (Drawn m) EntryPart e f = o
    stored (Drawn m) SlotPart e f = o
    stored (Drawn m) RootPart e f = o
    stored (Drawn m) (DescriptorPart c) e f = o
    stored (Drawn m) (ChunkPart c i) e f = o
    stored (Drawn m) OtherPart e f = o
    stored (Sealing m) part e f = o
    stored (Applying todo) GenerationPart e f = late (log_stored sh cl (Applying todo) GenerationPart n log) (Applying todo) (Applying (Rattle.pm_view.specs.Log.rest_of todo)) e refl refl refl (λ q. refl) refl
    stored (Applying todo) SealPart e f = late (log_stored sh cl (Applying todo) SealPart n log) (Applying todo) Clearing e refl refl refl (λ q. refl) refl
    stored (Applying todo) EntryPart e f = late (log_stored sh cl (Applying todo) EntryPart n log) (Applying todo) (Applying (Rattle.pm_view.specs.Log.rest_of todo)) e refl refl refl (λ q. refl) refl
    stored (Applying todo) SlotPart e f = late (log_stored sh cl (Applying todo) SlotPart n log) (Applying todo) (Applying (Rattle.pm_view.specs.Log.rest_of todo)) e refl refl refl (λ q. refl) refl
    stored (Applying todo) RootPart e f = late (log_stored sh cl (Applying todo) RootPart n log) (Applying todo) (Applying (Rattle.pm_view.specs.Log.rest_of todo)) e refl refl refl (λ q. refl) refl
    stored (Applying todo) (DescriptorPart c) e f = late (log_stored sh cl (Applying todo) (DescriptorPart c) n log) (Applying todo) (Applying (Rattle.pm_view.specs.Log.rest_of todo)) e refl refl refl (λ q. refl) refl
    stored (Applying todo) (ChunkPart c i) e f = late (log_stored sh cl (Applying todo) (ChunkPart c i) n log) (Applying todo) (Applying (Rattle.pm_view.specs.Log.rest_of todo)) e refl refl refl (λ q. refl) refl
    stored (Applying todo) OtherPart e f = late (log_stored sh cl (Applying todo) OtherPart n log) (Applying todo) (Applying (Rattle.pm_view.specs.Log.rest_of todo)) e refl refl refl (λ q. refl) refl
    stored Clearing part e f = o
    stored (Retiring m) part e f = o
    stored Voiding part e f = o

-- ---- A LANE OF A WORLD

code_word : (how : Op) (word : ℕ) → (8 * word + op_code how) / 8 ≡ word
code_word op.Set word = omega arith
code_word op.Or word = omega arith
code_word op.And word = omega arith

all_among : (P : Entry → Type 0) (done : List Entry) (e : Entry) (todo es : List Entry) → es ≡ done ++ e ∷ todo → All P es → P e
all_among P done e todo es is a = go done (subst (All P) is a)
  where
    go : (done : List Entry) → All P (done ++ e ∷ todo) → P e
    go [] a = All-head P e todo a
    go (d ∷ done) a = go done (All-tail P d (done ++ e ∷ todo) a)

module _ (o : Opening) (mem : Memory) (views : Views) (g : Past) (x : World o mem views g) (k : ℕ) (ink : k < o.lanes) where
  abbrev v : View
  v = views k

  abbrev sh : Shape
  sh = (views k).fixed.shape

  abbrev t : List Claim
  t = (views k).claims

  abbrev log : Log
  log = (views k).log

  of_pool : k < o.shape.lanes
  of_pool = let m = x.most_lanes in omega arith

  phase_fits : (ph : Phase) → (views k).log.phase ≡ ph → PhaseFits o.shape k (sight_of (views k)).picture (views k).log (views k).changes ph
  phase_fits ph e = subst (PhaseFits o.shape k (sight_of (views k)).picture (views k).log (views k).changes) e (x.each_lane k ink).log.phase

  module _ (h : HoldsItsRoots (views k).fixed.shape (views k).claims (views k).log) where
    -- an entry of the root word that is applied is one whose guards are held
    next_root : (todo : List Entry) → (views k).log.phase ≡ Applying todo → (how : Op) (value : ℕ) → IsNext todo 64 how value → HoldsGuards (views k).claims value
    next_root [] ph how value n = absurd n
    next_root (e ∷ todo) ph how value n =
        let p = phase_fits (Applying (e ∷ todo)) ph in
        let all = log_stands o.shape k of_pool (views k).log p.0 (λ i d at. ((x.each_lane k ink).log.pairs i d at).3) in
        subst (HoldsGuards (views k).claims) n.2
        (all_among (λ (d : Entry). d.place ≡ Some RootWord → HoldsRoots (views k).fixed.shape (views k).claims d.value) p.1.done e todo (views k).log.entries p.1.are h.entered
        (by_place e.place refl (stands_among o.shape k of_pool p.1.done e todo (views k).log.entries p.1.are all))).0
      where
        by_place : (d : Option Place) → e.place ≡ d → Stands o.shape k of_pool d e → e.place ≡ Some RootWord
        by_place None q s = absurd (let a = n.0 in let b : e.word ≡ word_of_generation o.shape k = s in omega arith)
        by_place (Some r) q s = q ∙ ap (λ z. Some z) (⊎_elim (λ (z : r ≡ RootWord). z) (λ (z : r ≡ RootWord). z)
            (of_place o.shape k of_pool RootWord r refl s.0 (s.1 ∙ n.0)))

    root_fits : (n : ℕ) (ph : Phase) → (views k).log.phase ≡ ph → StoreFits (views k) 64 n ph RootPart → HoldsGuards (views k).claims n
    root_fits n Idle e f = absurd f
    root_fits n Open e f = absurd f
    root_fits n (Drawn m) e f = absurd f
    root_fits n (Sealing m) e f = absurd f
    root_fits n (Applying todo) e f = next_root todo e op.Set n f
    root_fits n Clearing e f = absurd f
    root_fits n (Retiring m) e f = absurd f
    root_fits n Voiding e f = absurd f

    root_stored : (w n : ℕ) → MayStore (views k) w n → (w == 64) ≡ true → HoldsGuards (views k).claims n
    root_stored w n m e = root_fits n (views k).log.phase refl
        (subst (StoreFits (views k) 64 n (views k).log.phase) (root_part (views k).fixed.shape (views k).fixed.lane)
        (subst (λ i. StoreFits (views k) i n (views k).log.phase (part_in (views k) i)) (eqb-true w 64 e) m.fits))

    no_change : (how : Op) (bits : ℕ) (ph : Phase) → ChangeFits (views k) how 64 bits ph RootPart → ⊥
    no_change how bits Idle f = f
    no_change how bits Open f = f
    no_change how bits (Drawn m) f = f
    no_change how bits (Sealing m) f = f
    no_change how bits (Applying todo) f = f
    no_change how bits Clearing f = f
    no_change how bits (Retiring m) f = f
    no_change how bits Voiding f = f

    root_unchanged : (how : Op) (w bits : ℕ) → MayChange (views k) how w bits → (w == 64) ≡ true → ⊥
    root_unchanged how w bits m e = no_change how bits (views k).log.phase
        (subst (ChangeFits (views k) how 64 bits (views k).log.phase) (root_part (views k).fixed.shape (views k).fixed.lane)
        (subst (λ i. ChangeFits (views k) how i bits (views k).log.phase (part_in (views k) i)) (eqb-true w 64 e) m.fits))

    -- ---- stores
    module _ (w n : ℕ) (m : MayStore (views k) w n) where
      abbrev cl : ℕ → ℕ
      cl = class (views k).claims

      abbrev marked : List Claim
      marked = marked_by (views k).log.phase (part_in (views k) w) n (views k).claims

      with_word : Own (views k).fixed.shape (views k).claims (views k).log (Knows w n ∷ marked) (views k).log
      with_word = own_known (views k).fixed.shape (views k).claims marked (views k).log (marked_alike (views k).fixed.shape (views k).log.phase (part_in (views k) w) n (views k).claims) w n
          (λ e i r. root_stored w n m e) h (λ e. first_guard (views k).claims n (root_stored w n m e))

      -- an entry that is whole and sets the word
      entry_holds : AppendsToPair (views k) w n → (head : ℕ) → (views k).log.pair ≡ head ∷ []
          → place_at (views k).fixed.shape (class (views k).claims) (head / 8) ≡ Some RootWord → HoldsRoots (views k).fixed.shape (views k).claims n
      entry_holds a head one at =
          let spelled : (head ∷ n ∷ []) ≡ (8 * a.word + op_code a.how) ∷ a.value ∷ [] =
          subst (λ y. y ++ n ∷ [] ≡ take (length y + 1) ((8 * a.word + op_code a.how) ∷ a.value ∷ [])) one a.spells in
          let word : head / 8 ≡ a.word = ap (λ y. slice_index y 0 / 8) spelled ∙ code_word a.how a.word in
          let value : n ≡ a.value = ap (λ y. slice_index y 1) spelled in
          let may = subst (EntersWord (views k) a.word a.how a.value) (ap (place_at (views k).fixed.shape (class (views k).claims)) (sym word) ∙ at) a.may in
          (subst (HoldsGuards (views k).claims) (sym value) may.2, may.0)

      grown : (pair : List ℕ) → (views k).log.pair ≡ pair → (views k).log.phase ≡ Open → AppendsToPair (views k) w n
          → Own (views k).fixed.shape (views k).claims (views k).log (Knows w n ∷ marked) (with_pair (views k).fixed.shape (class (views k).claims) pair n (views k).log)
      grown [] q e a = own_log (views k).fixed.shape (views k).claims (Knows w n ∷ marked) (views k).log (views k).log (record (views k).log { pair = n ∷ [] }) refl (λ d. d) (λ l. l) with_word
      grown (head ∷ []) q e a =
          let d : Entry = entered (views k).fixed.shape (class (views k).claims) head n in
          let P : Entry → Type 0 = λ (d : Entry). d.place ≡ Some RootWord → HoldsRoots (views k).fixed.shape (Knows w n ∷ marked) d.value in
          record {
            holds_ = record {
              entered = All-append P (views k).log.entries (d ∷ []) with_word.holds_.entered
                  (All-cons P d [] (λ at. known_root (views k).fixed.shape (views k).claims marked (views k).log (marked_alike (views k).fixed.shape (views k).log.phase (part_in (views k) w) n (views k).claims) w n
                  (λ z i r. root_stored w n m z) h n (entry_holds a head q at)) (All-nil P));
              dropped = λ z. absurd (both_ways (is_decided (views k).log.phase) (ap is_decided e) z);
            };
            less = λ l line y s. (early_leaves (views k).log Open e refl, (with_word.less (early_leaves (views k).log Open e refl) line y s).1);
          }
      grown (head ∷ other ∷ rest) q e a = absurd (let s = (phase_fits Open e).1 in let z = ap length q in omega arith)

      pub own_store : Own (views k).fixed.shape (views k).claims (views k).log (Knows w n ∷ marked)
          (log_stored (views k).fixed.shape (class (views k).claims) (views k).log.phase (part_in (views k) w) n (views k).log)
      own_store = stored (views k).fixed.shape (views k).claims (Knows w n ∷ marked) (views k).log with_word (class (views k).claims) n (StoreFits (views k) w n)
          (λ e f. grown (views k).log.pair refl e f) (views k).log.phase (part_in (views k) w) refl m.fits

    -- ---- changes of words, which are of no root word
    own_change : (how : Op) (w bits y : ℕ) → MayChange (views k) how w bits
        → Own (views k).fixed.shape (views k).claims (views k).log (Knows w y ∷ (views k).claims) (log_changed (views k).log.phase (views k).log)
    own_change how w bits y m = changed (views k).fixed.shape (views k).claims (Knows w y ∷ (views k).claims) (views k).log
        (own_known (views k).fixed.shape (views k).claims (views k).claims (views k).log (same_claims (views k).fixed.shape (views k).claims) w y
        (λ e i r. absurd (root_unchanged how w bits m e)) h (λ e. absurd (root_unchanged how w bits m e)))
        (views k).log.phase refl

    -- ---- drains
    emptied : (t' : List Claim) (log' : Log) → log'.entries ≡ [] → ((views k).log.entries ≡ [])
        → ((line x : ℕ) → saw_root (views k).fixed.shape t' line x ≡ true → saw_root (views k).fixed.shape (views k).claims line x ≡ true)
        → Own (views k).fixed.shape (views k).claims (views k).log t' log'
    emptied t' log' none was s = record {
      holds_ = bare (views k).fixed.shape t' log' (no_entries log'.entries none);
      less = λ l line x q. (
        or_right (is_early (views k).log.phase) (not (sets_root (redos (views k).log.entries))) (ap (λ es. not (sets_root (redos es))) was),
        s line x q,
      );
    }

    own_drain : (left : List Undrained) → Own (views k).fixed.shape (views k).claims (views k).log
        (claims_drained left (views k).log (Drained left ∷ (views k).claims)) (log_left left (views k).log)
    own_drain (c ∷ left) = own_plain (views k).fixed.shape (Drained (c ∷ left)) (views k).claims (views k).log refl h
    own_drain [] = by (views k).log.phase refl
      where
        by : (ph : Phase) → (views k).log.phase ≡ ph → Own (views k).fixed.shape (views k).claims (views k).log
            (decided_by ph (views k).log.entries (Drained [] ∷ (views k).claims)) (log_drained ph (views k).log)
        by Idle e = own_plain (views k).fixed.shape (Drained []) (views k).claims (views k).log refl h
        by Open e = own_plain (views k).fixed.shape (Drained []) (views k).claims (views k).log refl h
        by (Drawn n) e = own_plain (views k).fixed.shape (Drained []) (views k).claims (views k).log refl h
        by (Sealing n) e = record {
          holds_ = record {
            entered = h.entered;
            dropped = λ d s line x. ap (λ q. not q && saw_root (views k).fixed.shape (views k).claims line x) s;
          };
          less = λ l line x q. (
            late_leaves (views k).log (record (views k).log { phase = Applying (views k).log.entries }) (Sealing n) (Applying (views k).log.entries) e refl refl refl refl l,
            (and_parts (not (sets_root (redos (views k).log.entries))) (saw_root (views k).fixed.shape (views k).claims line x) q).1,
          );
        }
        by (Applying todo) e = own_plain (views k).fixed.shape (Drained []) (views k).claims (views k).log refl h
        by Clearing e = record {
          holds_ = bare (views k).fixed.shape (Drained [] ∷ (views k).claims) (log_drained Clearing (views k).log) (no_entries [] refl);
          less = λ l line x q. ⊎_elim
              (λ (s : sets_root (redos (views k).log.entries) ≡ true).
              absurd (both_ways (saw_root (views k).fixed.shape (views k).claims line x) (h.dropped (ap is_decided e) s line x) q))
              (λ (s : sets_root (redos (views k).log.entries) ≡ false).
              (or_right (is_early (views k).log.phase) (not (sets_root (redos (views k).log.entries))) (ap not s), q))
              (cases_Bool (sets_root (redos (views k).log.entries)));
        }
        by (Retiring n) e = emptied (Drained [] ∷ (views k).claims) (log_drained (Retiring n) (views k).log) refl (phase_fits (Retiring n) e).0 (λ line x q. q)
        by Voiding e = emptied (Drained [] ∷ (views k).claims) (log_drained Voiding (views k).log) refl (phase_fits Voiding e).0 (λ line x q. q)

    -- ---- a lock goes back
    own_gave : (line : ℕ) (ph : Phase) → (views k).log.phase ≡ ph → GiveFits (views k) line ph
        → Own (views k).fixed.shape (views k).claims (views k).log (Gave line ∷ (views k).claims) (views k).log
    own_gave line ph e f = record {
      holds_ = bare (views k).fixed.shape (Gave line ∷ (views k).claims) (views k).log (none ph e f);
      less = λ l m x q. (l, (and_parts (not (line == m)) (saw_root (views k).fixed.shape (views k).claims m x) q).1);
    }
      where
        none : (ph : Phase) → (views k).log.phase ≡ ph → GiveFits (views k) line ph → All (λ (e : Entry). e.place ≢ Some RootWord) (views k).log.entries
        none Idle e f = no_entries (views k).log.entries (phase_fits Idle e).1
        none Open e f = f.1
        none (Drawn n) e f = absurd f
        none (Sealing n) e f = absurd f
        none (Applying todo) e f = absurd f
        none Clearing e f = absurd f
        none (Retiring n) e f = absurd f
        none Voiding e f = absurd f

    -- ---- EVERY STEP BUT A LOAD AND THE DRAW
    abbrev Goes : View → Type 0
    Goes next = (next.fixed.shape ≡ (views k).fixed.shape) × Own (views k).fixed.shape (views k).claims (views k).log next.claims next.log

    unmoved : Own (views k).fixed.shape (views k).claims (views k).log (views k).claims (views k).log
    unmoved = own_same (views k).fixed.shape (views k).claims (views k).log h

    begins_call : (s : Step) (ph : Phase) → (views k).log.phase ≡ ph → Goes (with_seen s (begun ph (views k)))
    begins_call s Idle e = (
      refl,
      record {
        holds_ = bare (views k).fixed.shape (views k).claims (new_log Open (views k).log.generation) (no_entries [] refl);
        less = λ l line x q. (early_leaves (views k).log Idle e refl, q);
      },
    )
    begins_call s Open e = (refl, unmoved)
    begins_call s (Drawn n) e = (refl, unmoved)
    begins_call s (Sealing n) e = (refl, unmoved)
    begins_call s (Applying todo) e = (refl, unmoved)
    begins_call s Clearing e = (refl, unmoved)
    begins_call s (Retiring n) e = (refl, unmoved)
    begins_call s Voiding e = (refl, unmoved)

    pub goes : (s : Step) → IsLawful (views k) s → is_other s ≡ true → Goes (after (views k) s)
    goes (Load w found) law u = absurd (both_ways false refl u)
    goes (Draw n) law u = absurd (both_ways false refl u)
    goes (Store w n) law u = (refl, own_store w n law.allowed)
    goes (Or w bits found) law u = (refl, own_change op.Or w bits (bit_or found bits) law.allowed)
    goes (And w bits found) law u = (refl, own_change op.And w bits (bit_and found bits) law.allowed)
    goes (Flush line) law u = (refl, unmoved)
    goes Drain law u = (refl, own_drain (drained (views k).changes))
    goes (TakeWrite line true) law u = (refl, own_took (views k).fixed.shape line true (views k).claims (views k).log law.allowed.free h)
    goes (TakeWrite line false) law u = (refl, unmoved)
    goes (TakeRead line true) law u = (refl, own_took (views k).fixed.shape line false (views k).claims (views k).log law.allowed.free h)
    goes (TakeRead line false) law u = (refl, unmoved)
    goes (Raise line true) law u = (refl, own_plain (views k).fixed.shape (Raised line) (views k).claims (views k).log refl h)
    goes (Raise line false) law u = (refl, unmoved)
    goes (Give line) law u = (refl, own_gave line (views k).log.phase refl law.allowed.fits)
    goes (ZoneTry zone won) law u = (refl, unmoved)
    goes (ZoneGive zone) law u = (refl, unmoved)
    goes (Occupied at found) law u = (refl, unmoved)
    goes (Occupy at bits true) law u = (refl, own_plain (views k).fixed.shape (Reserved at bits) (views k).claims (views k).log refl h)
    goes (Occupy at bits false) law u = (refl, unmoved)
    goes (Vacate at bits) law u = (refl, own_plain (views k).fixed.shape (Released at bits) (views k).claims (views k).log refl h)
    goes (NumberSeen n) law u = begins_call (NumberSeen n) (views k).log.phase refl
    goes (StopSeen set) law u = (refl, unmoved)
    goes SetStop law u = (refl, unmoved)
    goes (Tell operation reply) law u = (refl, unmoved)

    -- ---- A LOAD finds what the lane knows
    found_known : (n y : ℕ) → HoldsRoots (views k).fixed.shape (views k).claims n → FindsKnown (views k) 64 y → HoldsGuards (views k).claims y
    found_known n y r f =
        let z = some_known (pictured (views k).fixed.shape (views k).claims 64) (HoldsGuards (views k).claims) r.1 in
        let right : (runs_one (views k) || is_held (views k).fixed.shape (views k).claims 64) ≡ true =
        or_right (runs_one (views k)) (is_held (views k).fixed.shape (views k).claims 64)
        (or_right (is_held_at (views k).fixed.shape (views k).claims (place_at (views k).fixed.shape (class (views k).claims) 64)) (holds (views k).claims 0)
        (or_left (locked (views k).claims 0) (reads (views k).claims 0) (first_guard (views k).claims n r.0))) in
        let know : knows (views k) 64 ≡ Some z.0 = cond-true (runs_one (views k) || is_held (views k).fixed.shape (views k).claims 64) (pictured (views k).fixed.shape (views k).claims 64) None right ∙ z.1 in
        subst (HoldsGuards (views k).claims) (sym (subst (λ q. IfSome q (λ m. y ≡ m)) know f)) z.2

    seen_locks : (part : Part) (y line : ℕ) (t : List Claim) → (locked (seen_by part y t) line ≡ locked t line) × (holds (seen_by part y t) line ≡ holds t line)
    seen_locks GenerationPart y line t = (refl, refl)
    seen_locks SealPart y line t = (refl, refl)
    seen_locks EntryPart y line t = (refl, refl)
    seen_locks SlotPart y line t = (refl, refl)
    seen_locks RootPart y line t = (refl, refl)
    seen_locks (DescriptorPart c) y line t = (refl, refl)
    seen_locks (ChunkPart c zero) y line t = (refl, refl)
    seen_locks (ChunkPart c (suc i)) y line t = (refl, refl)
    seen_locks OtherPart y line t = (refl, refl)

    module _ (w y : ℕ) (found : FindsKnown (views k) w y) where
      abbrev part : Part
      part = part_in (views k) w

      load_holds : HoldsItsRoots (views k).fixed.shape (Knows w y ∷ seen_by (part_in (views k) w) y (views k).claims) (views k).log
      load_holds = known_holds (views k).fixed.shape (views k).claims (seen_by (part_in (views k) w) y (views k).claims) (views k).log
          (seen_alike (views k).fixed.shape (part_in (views k) w) y (views k).claims) w y
          (λ e n r. found_known n y r (subst (λ i. FindsKnown (views k) i y) (eqb-true w 64 e) found)) h

      pub loads : (ph : Phase) → HoldsItsRoots (views k).fixed.shape (learned ph (part_in (views k) w) w y (views k).claims) (views k).log
      loads Idle = load_holds
      loads Open = load_holds
      loads (Drawn n) = h
      loads (Sealing n) = h
      loads (Applying todo) = h
      loads Clearing = h
      loads (Retiring n) = h
      loads Voiding = h

      new_seen : (line z : ℕ) → saw_root (views k).fixed.shape (Knows w y ∷ seen_by (part_in (views k) w) y (views k).claims) line z ≡ true
          → (saw_root (views k).fixed.shape (views k).claims line z ≡ true) ⊎ IsNew (views k).claims w y line z
      new_seen line z s = knows_root (views k).fixed.shape w y (seen_by (part_in (views k) w) y (views k).claims) line z
          ((saw_root (views k).fixed.shape (views k).claims line z ≡ true) ⊎ IsNew (views k).claims w y line z) s
          (λ n. inr (record {
            word = n.word;
            value = n.value;
            held = sym (seen_locks (part_in (views k) w) y line (views k).claims).1 ∙ n.held;
            free = sym (ap not (seen_locks (part_in (views k) w) y 0 (views k).claims).0) ∙ n.free;
          }))
          (λ q. inl (sym ((seen_alike (views k).fixed.shape (part_in (views k) w) y (views k).claims).saw line z) ∙ q))

      pub load_sees : (ph : Phase) (line z : ℕ) → saw_root (views k).fixed.shape (learned ph (part_in (views k) w) w y (views k).claims) line z ≡ true
          → (saw_root (views k).fixed.shape (views k).claims line z ≡ true) ⊎ IsNew (views k).claims w y line z
      load_sees Idle line z s = new_seen line z s
      load_sees Open line z s = new_seen line z s
      load_sees (Drawn n) line z s = inl s
      load_sees (Sealing n) line z s = inl s
      load_sees (Applying todo) line z s = inl s
      load_sees Clearing line z s = inl s
      load_sees (Retiring n) line z s = inl s
      load_sees Voiding line z s = inl s

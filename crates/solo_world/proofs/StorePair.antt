-- A store of the next word of an entry's pair.
use Rattle.std.proofs.Common.{◌⊎◌, ◌≡◌, ◌≢◌, ℕ, ◌+◌, ◌*◌, ◌/◌, ◌%◌, ◌<◌, ◌≤◌, inl, inr, ⊎_elim, Bool, true, false, All, List, [], ◌∷◌, ◌++◌, length, take, slice_get, slice_index, Some, refl, sym, ap, ◌∙◌, subst, arith, length-append, IsTrue}
use Rattle.std.proofs.lemmas.Bool.{cases_lt, false≢true}
use Rattle.std.proofs.lemmas.List.{get_or_append_left, get_or_push}
use Rattle.std.proofs.lemmas.List.Elements.{All-push, All-weaker}
use Rattle.std.proofs.lemmas.Option.{none-some, slice_get_within}
use Rattle.pm_record.specs.Redo.{redo_words}
use Rattle.pm_record.specs.declared.redo.Op.{Op}
use Rattle.pm_record.specs.declared.redo.Op.TheVariants.{Set, Or, And}
use Rattle.solo_view.specs.Area.{area_word, part_of}
use Rattle.solo_view.specs.Area.Part.{EntryWord}
use Rattle.solo_view.specs.Changes.{store_change}
use Rattle.solo_view.specs.Counts.{MayCount, HasRoom}
use Rattle.solo_view.specs.Log.{Log, Final, with_pair, final_of}
use Rattle.solo_view.specs.Log.Phase.{Open}
use Rattle.solo_view.specs.View.{View}
use Rattle.solo_view.specs.Views.{changed}
use Rattle.solo_world.specs.Course.{flight_in}
use Rattle.solo_world.specs.Entries.{EntryStands, IsEnterable, IsEntryAt, entry_word, final_by, is_redoing, redo_on, seal_in, EntersAlone, IsGrowing}
use Rattle.solo_world.specs.Fits.{EntriesFit, OpenChange, OpenFits, LaneFits, LogFits, PhaseFits}
use Rattle.solo_world.specs.History.{Entry, Flies, settled}
use Rattle.solo_world.specs.Laws.{with_view}
use Rattle.solo_world.specs.Lawful.{AppendsToPair, generation_limit}
use Rattle.solo_world.specs.Memory.{Memory, Becomes}
use Rattle.solo_world.specs.Memory.Location.{PoolWord}
use Rattle.solo_world.specs.Opening.{Opening}
use Rattle.solo_world.specs.Records.{generation_of, slot_word, is_logged_from, is_logged, records_generation, used_slots}
use Rattle.solo_world.specs.World.{Views, World}
use Rattle.solo_view.specs.Rights.{is_written}
use Rattle.solo_world.proofs.Frame.{in_phase}
use Rattle.solo_world.proofs.Pairs.{in_log_before, none_redone}
use Rattle.solo_world.proofs.Parts.{entry_part}
use Rattle.solo_world.proofs.Recoursed.{logged_upto, open_again}
use Rattle.solo_world.proofs.Stored.{IsPlainWord, change_still, other_word, this_word, log_with, stored_fits, stored_world}
use Rattle.solo_world.proofs.StoreSlot.{get-push_cases}
use Rattle.solo_world.proofs.StoreWord.{drained_more}
use Rattle.solo_world.proofs.Worlds.{own}

-- one word is no entry yet
pub with_pair-short : (log : Log) (slot pair : List ℕ) → length pair < 2 → with_pair log slot pair ≡ in_phase (Open slot pair) log
with_pair-short log slot [] low = refl
with_pair-short log slot (a ∷ []) low = refl
with_pair-short log slot (a ∷ b ∷ pair) low = absurd (omega arith)

abbrev pub with_entry : Log → List ℕ → Final → Log
with_entry log slot f = record log { phase = Open slot []; entries = log.entries ++ f ∷ [] }

-- two are one
pub with_pair-whole : (log : Log) (slot : List ℕ) (op : Op) (word value : ℕ) → with_pair log slot (redo_words (redo_on op word value)) ≡ with_entry log slot (final_by op word value)
with_pair-whole log slot Set word value =
    let code : (8 * word + 0) % 8 ≡ 0 = omega arith in let place : (8 * word + 0) / 8 ≡ word = omega arith in
    λ i. with_entry log slot (final_of (code i) (place i) value)
with_pair-whole log slot Or word value =
    let code : (8 * word + 1) % 8 ≡ 1 = omega arith in let place : (8 * word + 1) / 8 ≡ word = omega arith in
    λ i. with_entry log slot (final_of (code i) (place i) value)
with_pair-whole log slot And word value =
    let code : (8 * word + 2) % 8 ≡ 2 = omega arith in let place : (8 * word + 2) / 8 ≡ word = omega arith in
    λ i. with_entry log slot (final_of (code i) (place i) value)

-- the word of an entry
pub final_word : (op : Op) (w x : ℕ) → (final_by op w x).word ≡ w
final_word Set w x = refl
final_word Or w x = refl
final_word And w x = refl

-- the pair in the making is none of the slots
used-pair : (slot pair pair' : List ℕ) (v v' : View) → length v'.log.records ≡ length v.log.records → used_slots (Open slot pair') v' ≡ used_slots (Open slot pair) v
used-pair [] pair pair' v v' same = same
used-pair (y ∷ slot) pair pair' v v' same = ap (λ n. n + 1) same

module _ (o : Opening) (old : Memory) (views : Views) (log : List Entry) (decided : ℕ → Bool) (world : World o old views log decided) (k : ℕ) (inside : k < o.lanes) (v : View) (is : views k ≡ v)
    (new : Memory) (w x : ℕ) (moves : Becomes (PoolWord w) x old new) (in_pool : w < length v.words) (may : MayCount v) (room : HasRoom v.changes) where
  mine : LaneFits o old (settled o log decided) (Flies log decided k) k v
  mine = own o old views log decided world k inside v is

  module _ (slot pair : List ℕ) (open_ : v.log.phase ≡ Open slot pair) (part : part_of v.lane w ≡ EntryWord) (adds : AppendsToPair v w x pair) where
    right : IsPlainWord v w
    right = inl (entry_part v.lane w part)

    open_fits : OpenFits v slot pair
    open_fits = subst (PhaseFits (Flies log decided k) v) open_ mine.phase

    open_log : LogFits (settled o log decided) v (generation_of v)
    open_log = subst (λ p. LogFits (settled o log decided) v (records_generation p v)) open_ mine.log

    abbrev view' : Log → View
    view' lg = changed v w x (store_change w (slice_index v.words w) x) lg

    others : (u : ℕ) → u ≢ w → slice_index (view' v.log).words u ≡ slice_index v.words u
    others = other_word o old views log decided world k inside v is new w x moves in_pool may room

    now : slice_index (view' v.log).words w ≡ x
    now = this_word o old views log decided world k inside v is new w x moves in_pool may room

    generation : (lg : Log) → generation_of (view' lg) ≡ generation_of v
    generation lg = others (area_word v.lane) (λ same. let here = adds.at in absurd (omega arith))

    logged_same : (lg : Log) → lg.records ≡ v.log.records → (u : ℕ) → is_logged v u ≡ true → is_logged (view' lg) u ≡ true
    logged_same lg records u there = ap (λ rs. is_logged_from (view' lg) 0 rs u) records ∙ logged_upto v (view' lg) 0 v.log.records
        (λ s low. drained_more v.lane s v.changes (store_change w (slice_index v.words w) x) (λ same. let here = adds.at in let short = open_fits.short_pair in let free = adds.free in absurd (omega arith))) u there

    -- what an entry may be of it may be of still
    enterable_here : (lg : Log) → IsGrowing lg.phase → (op : Op) (u y : ℕ) → IsEnterable v op u y → IsEnterable (view' lg) op u y
    enterable_here lg grows op u y enterable = record {
      of = ⊎_elim (λ (own : IsTrue (is_written v u)). inl own) (λ (other : ((u ≡ area_word v.lane) × (op ≡ Set)) ⊎ EntersAlone v u). inr (
          ⊎_elim (λ (generation : (u ≡ area_word v.lane) × (op ≡ Set)). inl generation) (λ (alone : EntersAlone v u). inr (alone.0, grows, alone.2)) other)) enterable.of;
      word = enterable.word;
    }

    -- the entries stand where they stood
    stand : (lg : Log) → IsGrowing lg.phase → (i : ℕ) (f : Final) → IsEntryAt v i f → EntryStands (view' lg) i f
    stand lg grows i f there =
        let fits = mine.entries.each i f there in let low = slice_get_within v.log.entries i f there in let here = adds.at in
        let first : slice_index (view' v.log).words (entry_word v.lane i) ≡ slice_index v.words (entry_word v.lane i) = others (entry_word v.lane i) (λ same. absurd (omega arith)) in
        let second : slice_index (view' v.log).words (entry_word v.lane i + 1) ≡ slice_index v.words (entry_word v.lane i + 1) = others (entry_word v.lane i + 1) (λ same. absurd (omega arith)) in
        record { op = fits.op; value = fits.value; is = fits.is; may = enterable_here lg grows fits.op f.word fits.value fits.may; spells = (λ j. first j ∷ second j ∷ []) ∙ fits.spells }

    unsealed : slice_index (view' v.log).words (area_word v.lane + 1) ≡ 0
    unsealed = others (area_word v.lane + 1) (λ same. let here = adds.at in absurd (omega arith)) ∙ (mine.entries.seal ∙ ap (λ p. seal_in p v) open_)

    -- the pair's words as they stand
    stands : (i : ℕ) → i < length (pair ++ x ∷ []) → slice_index (view' v.log).words (entry_word v.lane (length v.log.entries) + i) ≡ slice_index (pair ++ x ∷ []) i
    stands i low =
        let here = adds.at in let size = length-append pair (x ∷ []) in
        ⊎_elim (λ (before : i < length pair). others (entry_word v.lane (length v.log.entries) + i) (λ same. absurd (omega arith)) ∙ (open_fits.pair_stands i before ∙ sym (get_or_append_left pair (x ∷ []) 0 i before)))
        (λ (last : length pair ≤ i).
        let same : i ≡ length pair = omega (arith, size, low, last) in
        ap (λ n. slice_index (view' v.log).words (entry_word v.lane (length v.log.entries) + n)) same ∙ (ap (slice_index (view' v.log).words) (sym here) ∙ (now ∙ sym (get_or_push pair x 0 i (sym same)))))
        (cases_lt i (length pair))

    slot_stands : (i : ℕ) → i < length slot → slice_index (view' v.log).words (slot_word v.lane (length v.log.records) + i) ≡ slice_index slot i
    slot_stands i low = let here = adds.at in let short = open_fits.short_pair in let free = adds.free in
        others (slot_word v.lane (length v.log.records) + i) (λ same. absurd (omega arith)) ∙ open_fits.stands i low

    changes_fit : (lg : Log) → ((u : ℕ) → is_logged v u ≡ true → is_logged (view' lg) u ≡ true) → All (OpenChange (view' lg)) (view' lg).changes
    changes_fit lg logged = All-push (OpenChange (view' lg)) v.changes (store_change w (slice_index v.words w) x)
        (All-weaker (OpenChange v) (OpenChange (view' lg)) (λ c of. open_again v (view' lg) c refl logged (change_still o old views log decided world k inside v is new w x moves in_pool right may room (store_change w (slice_index v.words w) x) lg c) of) v.changes open_fits.changes)
        (record { whole = refl; of = inr (inl part) })

    goes_on : (lg : Log) (pair' : List ℕ) → lg.phase ≡ Open slot pair' → lg.records ≡ v.log.records → EntriesFit (view' lg) → OpenFits (view' lg) slot pair' → World o new (with_view views k (view' lg)) log decided
    goes_on lg pair' phase records entries_fit fits =
        let here = adds.at in let short = open_fits.short_pair in let free = adds.free in
        let quiet : is_redoing lg.phase ≡ false = ap is_redoing phase in
        let used : used_slots lg.phase (view' lg) ≡ used_slots v.log.phase v = ap (λ p. used_slots p (view' lg)) phase ∙ (used-pair slot pair pair' v (view' lg) (ap length records) ∙ sym (ap (λ p. used_slots p v) open_)) in
        stored_world o old views log decided world k inside v is new w x moves in_pool right may room (store_change w (slice_index v.words w) x) lg
        (stored_fits o old views log decided world k inside v is new w x moves in_pool right may room (store_change w (slice_index v.words w) x) lg
        (subst (LogFits (settled o log decided) (view' lg)) (subst (λ p. generation_of v ≡ records_generation p (view' lg)) (sym phase) (sym (generation lg)))
        (log_with o old views log decided world k inside v is new w x moves in_pool may room (store_change w (slice_index v.words w) x) lg (generation_of v) records (λ s low. inl (omega arith)) used open_log))
        entries_fit (λ u again. absurd (false≢true (sym (none_redone (view' lg) u quiet) ∙ again)))
        (subst (PhaseFits (Flies log decided k) (view' lg)) (sym phase) fits)
        (subst (λ g. 1 ≤ g) (sym (generation lg)) mine.first_generation) (subst (λ g. g ≤ generation_limit) (sym (generation lg)) mine.last_generation))
        (λ n flying. absurd (none-some n (sym (ap (λ p. flight_in p v.number) open_) ∙ flying)))
        (λ u heap un. (
          (λ same. let lane = mine.lane.lane in
              ⊎_elim (λ (root : u ≡ 64). absurd (omega arith)) (λ (t : (512 + 1024 * o.lanes ≤ u) × (u < _)). let low = t.0 in absurd (omega arith)) heap.heap),
          in_log_before v (view' lg) u (logged_same lg records u) (λ redone. absurd (false≢true (sym (none_redone v u (ap is_redoing open_)) ∙ redone))) un,
        ))

    -- the entry is not whole yet
    grows : length pair + 1 < 2 → World o new (with_view views k (view' (in_phase (Open slot (pair ++ x ∷ [])) v.log))) log decided
    grows short =
        let lg : Log = in_phase (Open slot (pair ++ x ∷ [])) v.log in let size = length-append pair (x ∷ []) in let free = adds.free in
        goes_on lg (pair ++ x ∷ []) refl refl
        (record { most = mine.entries.most; each = λ i f there. stand lg tt i f there; seal = unsealed; none = tt })
        (record {
          undrawn = open_fits.undrawn;
          short = open_fits.short;
          stands = slot_stands;
          short_pair = omega (arith, size, short);
          in_pairs = omega (arith, size, short, free);
          pair_stands = stands;
          changes = changes_fit lg (logged_same lg refl);
        })

    -- the new entry stands in its pair
    new_stands : length pair + 1 ≡ 2 → (lg : Log) → IsGrowing lg.phase → EntryStands (view' lg) (length v.log.entries) (final_by adds.op adds.word adds.value)
    new_stands last lg grows =
        let size = length-append pair (x ∷ []) in
        let from : ℕ = entry_word v.lane (length v.log.entries) in
        let spells : pair ++ x ∷ [] ≡ redo_words (redo_on adds.op adds.word adds.value) = adds.spells ∙ ap (λ n. take n (redo_words (redo_on adds.op adds.word adds.value))) last in
        let zeroth : from + 0 ≡ from = omega arith in
        let first : slice_index (view' v.log).words from ≡ slice_index (redo_words (redo_on adds.op adds.word adds.value)) 0 =
        ap (slice_index (view' v.log).words) (sym zeroth) ∙ (stands 0 (omega (arith, size, last)) ∙ ap (λ ws. slice_index ws 0) spells) in
        let second : slice_index (view' v.log).words (from + 1) ≡ slice_index (redo_words (redo_on adds.op adds.word adds.value)) 1 = stands 1 (omega (arith, size, last)) ∙ ap (λ ws. slice_index ws 1) spells in
        let word : adds.word ≡ (final_by adds.op adds.word adds.value).word = sym (final_word adds.op adds.word adds.value) in
        record {
          op = adds.op;
          value = adds.value;
          is = ap (λ u. final_by adds.op u adds.value) word;
          may = enterable_here lg grows adds.op (final_by adds.op adds.word adds.value).word adds.value (subst (λ u. IsEnterable v adds.op u adds.value) word adds.may);
          spells = (λ j. first j ∷ second j ∷ []) ∙ ap (λ u. redo_words (redo_on adds.op u adds.value)) word;
        }

    -- the entry is whole
    completes : length pair + 1 ≡ 2 → World o new (with_view views k (view' (with_entry v.log slot (final_by adds.op adds.word adds.value)))) log decided
    completes last =
        let e : Final = final_by adds.op adds.word adds.value in
        let lg : Log = with_entry v.log slot e in
        let longer = length-append v.log.entries (e ∷ []) in let free = adds.free in
        goes_on lg [] refl refl
        (record {
          most = omega (arith, longer, free);
          each = λ i f there. ⊎_elim (λ (before : slice_get v.log.entries i ≡ Some f). stand lg tt i f before)
              (λ (t : (i ≡ length v.log.entries) × (e ≡ f)). subst (EntryStands (view' lg) i) t.1 (subst (λ n. EntryStands (view' lg) n e) (sym t.0) (new_stands last lg tt)))
              (get-push_cases v.log.entries e i f there);
          seal = unsealed;
          none = tt;
        })
        (record {
          undrawn = open_fits.undrawn;
          short = open_fits.short;
          stands = slot_stands;
          short_pair = omega arith;
          in_pairs = omega (arith, longer, free);
          pair_stands = λ i low. absurd (omega arith);
          changes = changes_fit lg (logged_same lg refl);
        })

    pub stores_pair : World o new (with_view views k (view' (with_pair v.log slot (pair ++ x ∷ [])))) log decided
    stores_pair =
        let size = length-append pair (x ∷ []) in let most = open_fits.short_pair in
        ⊎_elim (λ (short : length pair + 1 < 2). subst (λ lg. World o new (with_view views k (view' lg)) log decided) (sym (with_pair-short v.log slot (pair ++ x ∷ []) (omega (arith, size, short)))) (grows short))
        (λ (whole : 2 ≤ length pair + 1).
        let last : length pair + 1 ≡ 2 = omega (arith, whole, most) in
        let spells : pair ++ x ∷ [] ≡ redo_words (redo_on adds.op adds.word adds.value) = adds.spells ∙ ap (λ n. take n (redo_words (redo_on adds.op adds.word adds.value))) last in
        subst (λ lg. World o new (with_view views k (view' lg)) log decided) (sym (ap (with_pair v.log slot) spells ∙ with_pair-whole v.log slot adds.op adds.word adds.value)) (completes last))
        (cases_lt (length pair + 1) 2)

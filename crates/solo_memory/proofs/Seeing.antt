-- How lane 0's view follows its memory, a memory call at a time.
use Rattle.std.proofs.Common.{◌≡◌, ⊎_elim, ℕ, ◌+◌, ◌/◌, ◌^◌, ◌<◌, Bool, true, false, cond, List, [], ◌∷◌, ◌++◌, length-set, slice_index, set, refl, sym, ap, ◌∙◌}
use Rattle.std.specs.List.{Contains}
use Rattle.std.specs.Option.{ForSome}
use Rattle.std.proofs.lemmas.List.{set-get_or}
use Rattle.std.proofs.lemmas.List.Elements.{All-push, Contains-push_cases}
use Rattle.solo_view.specs.declared.change.Change.{Change}
use Rattle.solo_view.specs.Blocks.{allocation_word, block_at, is_word}
use Rattle.solo_view.specs.Founds.{FindsKnown, IsAlone}
use Rattle.solo_view.specs.Log.{Log}
use Rattle.solo_view.specs.Steps.{Step}
use Rattle.solo_view.specs.Steps.Step.{Load, NumberSeen}
use Rattle.solo_view.specs.View.{View, Lock}
use Rattle.solo_view.specs.Views.{after, with_seen, loaded, changed, with_block}
use Rattle.solo_memory.specs.Solo.{Solo, Sees, IsDue, IsGranted, counted, with_change, says_stopped}
use Rattle.solo_memory.proofs.Counting.{within_next, calls_next}
use Rattle.solo_memory.proofs.HeldLocks.{lock_word-map}

-- a step told something, and a number seen is the number
pub sees_seen : (m : Solo) (v : View) (s : Step) → IsGranted s → ((n : ℕ) → s ≡ NumberSeen n → m.number ≡ n) → Sees m v → Sees m (with_seen s v)
sees_seen m v s granted drawn sees = record {
  lane = sees.lane;
  words = sees.words;
  changes = sees.changes;
  stop = sees.stop;
  calls = sees.calls;
  within = sees.within;
  numbers = sees.numbers;
  count = sees.count;
  counter = λ none n among. ⊎_elim (λ (before : Contains v.seen (NumberSeen n)). sees.counter none n before) (λ (last : s ≡ NumberSeen n). drawn n last) (Contains-push_cases v.seen s (NumberSeen n) among);
  locks = sees.locks;
  zone_locks = sees.zone_locks;
  lines = sees.lines;
  runs = sees.runs;
  zones = sees.zones;
  pages = sees.pages;
  zone_count = sees.zone_count;
  zone_lock_count = sees.zone_lock_count;
  alone = All-push IsGranted v.seen s sees.alone granted;
}

-- a load tells nothing of a lock's line, nor of whether it is for writing
line-either : (b : Bool) (k l : Lock) → k.line ≡ l.line → (let either : Lock = cond b k l in either.line) ≡ l.line
line-either true k l same = same
line-either false k l same = refl

write-either : (b : Bool) (k l : Lock) → k.write ≡ l.write → (let either : Lock = cond b k l in either.write) ≡ l.write
write-either true k l same = same
write-either false k l same = refl

line-with_block : (lanes : ℕ) (words : List ℕ) (w : ℕ) (l : Lock) → (with_block lanes words w l).line ≡ l.line
line-with_block lanes words w l = line-either (is_word (allocation_word lanes words l.line) w) (record l { block = block_at lanes words l.line }) l refl

write-with_block : (lanes : ℕ) (words : List ℕ) (w : ℕ) (l : Lock) → (with_block lanes words w l).write ≡ l.write
write-with_block lanes words w l = write-either (is_word (allocation_word lanes words l.line) w) (record l { block = block_at lanes words l.line }) l refl

-- the word found is the memory's
pub sees_loaded : (m : Solo) (v : View) (w x : ℕ) → x ≡ slice_index m.words w → Sees m v → Sees m (after v (Load w x)) × FindsKnown v w x × (IsAlone v → x ≡ slice_index v.words w)
sees_loaded m v w x found sees =
    let same : set v.words w x ≡ v.words = ap (set v.words w) (found ∙ ap (λ (words : List ℕ). slice_index words w) (sym sees.words)) ∙ set-get_or v.words w 0 in (
      sees_seen m (loaded v w x) (Load w x) tt (λ n e. cc) record {
        lane = sees.lane;
        words = same ∙ sees.words;
        changes = sees.changes;
        stop = sees.stop;
        calls = sees.calls;
        within = sees.within;
        numbers = sees.numbers;
        count = sees.count;
        counter = sees.counter;
        locks = λ line there. sees.locks line there ∙ sym (lock_word-map (with_block v.lanes (set v.words w x) w) (line-with_block v.lanes (set v.words w x) w) (write-with_block v.lanes (set v.words w x) w) v.locks line);
        zone_locks = sees.zone_locks;
        lines = sees.lines;
        runs = sees.runs;
        zones = sees.zones;
        pages = sees.pages;
        zone_count = sees.zone_count;
        zone_lock_count = sees.zone_lock_count;
        alone = sees.alone;
      },
      λ known. found ∙ ap (λ (words : List ℕ). slice_index words w) (sym sees.words),
      λ alone. found ∙ ap (λ (words : List ℕ). slice_index words w) (sym sees.words),
    )

-- a counted call made this change
pub sees_changed : (m : Solo) (v : View) (c : Change) (x : ℕ) (log : Log) → IsDue m → ForSome m.stop (λ stop. stop < 2 ^ 64) → Sees m v → Sees (with_change (counted m) c x) (changed v c.word x c log)
sees_changed m v c x log due fits sees = record {
  lane = sees.lane;
  words = ap (λ (words : List ℕ). set words c.word x) sees.words;
  changes = ap (λ (changes : List Change). changes ++ c ∷ []) sees.changes;
  stop = sees.stop;
  calls = calls_next v.calls m.calls sees.calls;
  within = within_next m v sees due fits;
  numbers = sees.numbers;
  count = sees.count;
  counter = sees.counter;
  locks = sees.locks;
  zone_locks = sees.zone_locks;
  lines = sees.lines ∙ ap (λ n. n / 8) (sym (length-set m.words c.word x));
  runs = sees.runs;
  zones = sees.zones;
  pages = sees.pages ∙ ap (λ n. n / 512) (sym (length-set m.words c.word x));
  zone_count = sees.zone_count;
  zone_lock_count = sees.zone_lock_count;
  alone = sees.alone;
}

-- a flush or a drain was counted
pub sees_recounted : (m : Solo) (v : View) (f : List Change → List Change) (log : Log) → IsDue m → ForSome m.stop (λ stop. stop < 2 ^ 64) → Sees m v
    → Sees (record (counted m) { changes = f m.changes }) (record v { changes = f v.changes; calls = v.calls + 1; log = log })
sees_recounted m v f log due fits sees = record {
  lane = sees.lane;
  words = sees.words;
  changes = ap f sees.changes;
  stop = sees.stop;
  calls = calls_next v.calls m.calls sees.calls;
  within = within_next m v sees due fits;
  numbers = sees.numbers;
  count = sees.count;
  counter = sees.counter;
  locks = sees.locks;
  zone_locks = sees.zone_locks;
  lines = sees.lines;
  runs = sees.runs;
  zones = sees.zones;
  pages = sees.pages;
  zone_count = sees.zone_count;
  zone_lock_count = sees.zone_lock_count;
  alone = sees.alone;
}

-- that the lane stopped is no concern of its view
pub sees_stopped : (m : Solo) (v : View) → Sees m v → Sees (says_stopped m) v
sees_stopped m v sees = record {
  lane = sees.lane;
  words = sees.words;
  changes = sees.changes;
  stop = sees.stop;
  calls = sees.calls;
  within = sees.within;
  numbers = sees.numbers;
  count = sees.count;
  counter = sees.counter;
  locks = sees.locks;
  zone_locks = sees.zone_locks;
  lines = sees.lines;
  runs = sees.runs;
  zones = sees.zones;
  pages = sees.pages;
  zone_count = sees.zone_count;
  zone_lock_count = sees.zone_lock_count;
  alone = sees.alone;
}

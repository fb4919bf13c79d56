-- What a transaction touches: its parts within sets of objects and lines, and a transaction that fits them.
use Rattle.std.proofs.Common.{◌≡◌, ⊎_elim, ℕ, ◌+◌, ◌-◌, ◌≤◌, List, [], ◌∷◌, ◌++◌, length, Bool, true, false, not, cond, eqb, leb, ltb, ◌&&◌, ◌||◌, Option, Some, None, refl, sym, ◌∙◌, ap, subst, arith}
use Rattle.std.specs.Option.{option_map_or}
use Rattle.std.specs.Int.{div_ceil}
use Rattle.std.specs.List.{find, list_any}
use Rattle.std.proofs.lemmas.Bool.{eqb-true, false≢true, or_cases, or_left, or_right, and_parts, and_from, leb-true, le-leb, lt-ltb}
use Rattle.std.proofs.lemmas.Grind.{div_ceil_times}
use Rattle.pm_layout.specs.Sizes.{class_of, classes, lines_for}
use Rattle.pm_layout.specs.declared.class.Class.TheVariants.{Lines, Chunks}
use Rattle.pm_objects.specs.Pool.{block_lines}
use Rattle.pm_objects.specs.declared.calls.Operation.{Operation}
use Rattle.pm_objects.specs.declared.calls.Operation.TheVariants.{Alloc, Reserve, Commit}
use Rattle.pm_objects.specs.declared.calls.Want.{Want}
use Rattle.pm_objects.specs.declared.history.TxErr.{TxErr}
use Rattle.pm_objects.specs.declared.history.TxErr.TheVariants as error
use Rattle.pm_objects.specs.declared.history.Value.{Value}
use Rattle.pm_objects.specs.declared.history.Value.TheVariants.{Offset, Refused}
use Rattle.pm_model.specs.Items.{Item, Items, PlainPool, all_edited}
use Rattle.pm_model.specs.Blocks.{AreAllFree, Block, IsFree, covers, first_line, item_covers}
use Rattle.pm_model.specs.Pending.{SetWord, set_edits}
use Rattle.pm_model.specs.Transaction.{Lock as HeldLock, Transaction, aborted, all_locked, committed, idle, is_locked, is_none}
use Rattle.pm_model.specs.Inside.{after_reply, is_action, performed}
use Rattle.pm_model.specs.Parts.{Parts, joined}
use Rattle.pm_model.proofs.Lists.{Each, any_append, any_from, each_left, each_right, each_weaker}
use Rattle.pm_model.proofs.Edits.{HasLines}
use Rattle.pm_model.proofs.Locking.{all_locked_from}

pub held_so : (a h : Bool) → not (a && h) ≡ false → h ≡ true
held_so true true e = refl
held_so true false e = absurd (false≢true (sym e))
held_so false h e = absurd (false≢true (sym e))

pub not_new : (n h : Bool) → not (n || h) ≡ true → not n ≡ true
not_new true h e = e
not_new false h e = refl

-- what is asked of an item alone
unfoldable pub listed_as : Option Item → Bool
listed_as o = option_map_or (λ (head : ℕ). true)
    (option_map_or (λ (i : Item). i.list) o None) false
    || leb 1 (length (option_map_or (λ (i : Item). i.members) o []))

unfoldable pub size_as : Option Item → ℕ
size_as o = length (option_map_or (λ (i : Item). i.bytes) o [])

-- an operation leaves the pool as the call began
pub by_action : (b : Bool) (e : TxErr) (tx : Transaction)
    → (cond b tx (aborted e tx)).before ≡ tx.before
by_action true e tx = refl
by_action false e tx = refl

by_level : (b : Bool) (one two : Transaction) → one.before ≡ two.before
    → (cond b one two).before ≡ two.before
by_level true one two same = same
by_level false one two same = refl

performed_before : (op : Operation) (tx : Transaction) → (performed op tx).before ≡ tx.before
performed_before Commit tx =
    by_level (leb tx.level 1)
    (record (idle tx.before tx.pending) { items = all_edited (set_edits tx.sets) tx.items })
    (record (committed tx) {
      level = tx.level - 1;
      stage = cond (is_none tx.error) Rattle.pm_model.specs.declared.stage.Stage.TheVariants.Work Rattle.pm_model.specs.declared.stage.Stage.TheVariants.OnAbort;
    }) refl
performed_before op tx = refl

pub before_after : (op : Operation) (reply : Option Value) (tx : Transaction)
    → (after_reply op reply tx).before ≡ tx.before
before_after op (Some (Refused r)) tx = by_action (is_action op) (error.Refused r) tx
before_after (Alloc size kind) (Some (Offset off)) tx = refl
before_after (Reserve size kind) (Some (Offset off)) tx = refl
before_after op reply tx = performed_before op tx

-- blocks that are free are so among other objects that have the same of their lines
pub free_there : (B : ℕ → Bool) (items there : Items)
    → ((l x : ℕ) → B l ≡ true → item_covers x (there x) l ≡ item_covers x (items x) l)
    → (taken : List Block) (b : Block) → ((l : ℕ) → covers b l ≡ true → B l ≡ true)
    → IsFree items taken b → IsFree there taken b
free_there B items there lines taken b within free =
    record { objects = λ l x c. lines l x (within l c) ∙ free.objects l x c; others = free.others }

pub all_free_there : (B : ℕ → Bool) (items there : Items)
    → ((l x : ℕ) → B l ≡ true → item_covers x (there x) l ≡ item_covers x (items x) l)
    → (blocks taken : List Block)
    → Each (λ (b : Block). (l : ℕ) → covers b l ≡ true → B l ≡ true) blocks
    → AreAllFree items taken blocks → AreAllFree there taken blocks
all_free_there B items there lines [] taken within free = tt
all_free_there B items there lines (b ∷ blocks) taken within free = (
  free_there B items there lines taken b within.0 free.0,
  all_free_there B items there lines blocks (b ∷ taken) within.1 free.1,
)

-- a block has a line at least, so it covers its first
found_line : (need : ℕ) (sizes : List ℕ) (lines : ℕ)
    → find (λ k. leb need k) sizes ≡ Some lines → need ≤ lines
found_line need [] lines is = absurd cc
found_line need (k ∷ sizes) lines is = go (leb need k) refl is (found_line need sizes lines) where
  go : (t : Bool) → leb need k ≡ t
      → cond t (Some k) (find (λ n. leb need n) sizes) ≡ Some lines
      → (find (λ n. leb need n) sizes ≡ Some lines → need ≤ lines) → need ≤ lines
  go true fits found later = let same : k ≡ lines = cc in
      subst (λ (n : ℕ). need ≤ n) same (leb-true need k fits)
  go false fails found later = later found

some_lines : (need : ℕ) (class : Option ℕ) → 1 ≤ need
    → ((lines : ℕ) → class ≡ Some lines → need ≤ lines)
    → 1 ≤ block_lines (option_map_or Lines class (Chunks (div_ceil need 64)))
some_lines need None some held = let chunks = div_ceil_times need 64 (omega arith) in omega arith
some_lines need (Some lines) some held = let enough : need ≤ lines = held lines refl in omega arith

has_lines : (size : ℕ) → 1 ≤ block_lines (class_of size)
has_lines size = some_lines (lines_for size) (find (λ lines. leb (lines_for size) lines) classes)
    (omega arith) (found_line (lines_for size) classes)

covers_from : (first n : ℕ) → 1 ≤ n → (leb first first && ltb first (first + n)) ≡ true
covers_from first n some = and_from (leb first first) (ltb first (first + n))
    (le-leb first first (omega arith)) (lt-ltb first (first + n) (omega arith))

pub covers_first : (b : Block) → covers b (first_line b) ≡ true
covers_first b = covers_from (first_line b) (block_lines (class_of b.size)) (has_lines b.size)

-- each of blocks that may be taken one after another is free of the objects
pub each_free : (items : Items) (taken blocks : List Block) → AreAllFree items taken blocks
    → Each (λ (b : Block). IsFree items [] b) blocks
each_free items taken [] free = tt
each_free items taken
    (b ∷ blocks) free = (
      record { objects = free.0.objects; others = λ l c. refl },
      each_free items (b ∷ taken) blocks free.1,
    )

-- the part is among what T and W say of objects, and B of lines
abbrev pub WithinT : (ℕ → Bool) → (ℕ → Bool) → Want → Type 0
WithinT T W w = (T w.id.off ≡ true) × (w.write ≡ true → W w.id.off ≡ true)

abbrev pub WithinB : (ℕ → Bool) → (ℕ → Bool) → Block → Type 0
WithinB W B b = (W b.off ≡ true) × ((l : ℕ) → covers b l ≡ true → B l ≡ true)

pub record Within (T W B : ℕ → Bool) (p : Parts) : Type 0 where
  pub locks : Each (WithinT T W) p.locks
  pub blocks : Each (WithinB W B) p.blocks

pub within_first : (T W B : ℕ → Bool) (p q : Parts) → Within T W B (joined p q) → Within T W B p
within_first T W B p q w = record {
  locks = each_left (WithinT T W) p.locks q.locks w.locks;
  blocks = each_left (WithinB W B) p.blocks q.blocks w.blocks;
}

pub within_rest : (T W B : ℕ → Bool) (p q : Parts) → Within T W B (joined p q) → Within T W B q
within_rest T W B p q w = record {
  locks = each_right (WithinT T W) p.locks q.locks w.locks;
  blocks = each_right (WithinB W B) p.blocks q.blocks w.blocks;
}

-- the objects that are held are among what T says, those to write among what W says
abbrev pub HeldIn : (ℕ → Bool) → (ℕ → Bool) → List Block → List HeldLock → Type 0
HeldIn T W made locks =
    ((x : ℕ) → (list_any (λ (b : Block). eqb b.off x) made || is_locked locks x false) ≡ true
    → T x ≡ true)
    × ((x : ℕ) → (list_any (λ (b : Block). eqb b.off x) made || is_locked locks x true) ≡ true
    → W x ≡ true)

-- a transaction that has so far kept to what T, W and B say
pub record Fits (T W B : ℕ → Bool) (here : PlainPool) (made : List Block) (locks : List HeldLock)
    (items : Items) (sets : List SetWord) : Type 0 where
  pub held : HeldIn T W made locks
  pub lines : HasLines B here.items items
  pub stays : (x : ℕ) → W x ≡ false → items x ≡ here.items x
  pub published : Each (λ (a : SetWord). W a.id.off ≡ true) sets

abbrev pub FitsTx : (ℕ → Bool) → (ℕ → Bool) → (ℕ → Bool) → PlainPool → Transaction → Type 0
FitsTx T W B here tx = Fits T W B here tx.made tx.locks tx.items tx.sets

pub no_held : (T W : ℕ → Bool) → HeldIn T W [] []
no_held T W = (λ x e. absurd (false≢true e), λ x e. absurd (false≢true e))

pub less_held : (T W : ℕ → Bool) (made : List Block) (locks : List HeldLock)
    → HeldIn T W made locks → HeldIn T W [] locks
less_held T W made locks held =
    let new : ℕ → Bool = λ x. list_any (λ (b : Block). eqb b.off x) made in (
      λ x e. held.0 x (or_right (new x) (is_locked locks x false) e),
      λ x e. held.1 x (or_right (new x) (is_locked locks x true) e),
    )

-- with more new blocks
pub more_made : (T W B : ℕ → Bool) → ((x : ℕ) → W x ≡ true → T x ≡ true)
    → (blocks made : List Block) (locks : List HeldLock) → Each (WithinB W B) blocks
    → HeldIn T W made locks → HeldIn T W (blocks ++ made) locks
more_made T W B wt blocks made locks within held = (
  λ x e. by x false e (λ n. wt x (new x n)) (held.0 x),
  λ x e. by x true e (new x) (held.1 x),
) where
  new : (x : ℕ) → list_any (λ (b : Block). eqb b.off x) blocks ≡ true → W x ≡ true
  new x = any_from (W x ≡ true) (λ (b : Block). eqb b.off x) blocks
      (each_weaker (WithinB W B) (λ (b : Block). eqb b.off x ≡ true → W x ≡ true) blocks
      (λ b w e. ap W (sym (eqb-true b.off x e)) ∙ w.0) within)

  by : (x : ℕ) (write : Bool) {Q : Type 0}
      → (list_any (λ (b : Block). eqb b.off x) (blocks ++ made)
      || is_locked locks x write) ≡ true
      → (list_any (λ (b : Block). eqb b.off x) blocks ≡ true → Q)
      → ((list_any (λ (b : Block). eqb b.off x) made || is_locked locks x write) ≡ true
      → Q) → Q
  by x write e now old =
      let q : Block → Bool = λ b. eqb b.off x in
      ⊎_elim
      (λ (n : list_any q (blocks ++ made) ≡ true). ⊎_elim now
      (λ (m : list_any q made ≡ true). old
      (or_left (list_any q made) (is_locked locks x write) m))
      (or_cases (list_any q blocks) (list_any q made) (sym (any_append q blocks made) ∙ n)))
      (λ (l : is_locked locks x write ≡ true). old
      (or_right (list_any q made) (is_locked locks x write) l))
      (or_cases (list_any q (blocks ++ made)) (is_locked locks x write) e)

-- with more locks
pub more_locks : (T W : ℕ → Bool) (made : List Block) (locks : List HeldLock) (wants : List Want)
    → Each (WithinT T W) wants → HeldIn T W made locks → HeldIn T W made (all_locked wants locks)
more_locks T W made locks wants within held = (
  λ x e. by x false e (asked_read x) (held.0 x),
  λ x e. by x true e (asked_write x) (held.1 x),
) where
  asked_read : (x : ℕ)
      → list_any (λ (w : Want). eqb w.id.off x && (w.write || not false)) wants ≡ true
      → T x ≡ true
  asked_read x = any_from (T x ≡ true)
      (λ (w : Want). eqb w.id.off x && (w.write || not false)) wants
      (each_weaker (WithinT T W)
      (λ (w : Want). (eqb w.id.off x && (w.write || not false)) ≡ true → T x ≡ true) wants
      (λ w h e. ap T (sym (eqb-true w.id.off x
      (and_parts (eqb w.id.off x) (w.write || not false) e).0)) ∙ h.0) within)

  writes_so : (w : Bool) → (w || not true) ≡ true → w ≡ true
  writes_so true e = refl
  writes_so false e = absurd (false≢true e)

  asked_write : (x : ℕ)
      → list_any (λ (w : Want). eqb w.id.off x && (w.write || not true)) wants ≡ true
      → W x ≡ true
  asked_write x = any_from (W x ≡ true)
      (λ (w : Want). eqb w.id.off x && (w.write || not true)) wants
      (each_weaker (WithinT T W)
      (λ (w : Want). (eqb w.id.off x && (w.write || not true)) ≡ true → W x ≡ true) wants
      (λ w h e. let p = and_parts (eqb w.id.off x) (w.write || not true) e in
      ap W (sym (eqb-true w.id.off x p.0)) ∙ h.1 (writes_so w.write p.1)) within)

  by : (x : ℕ) (write : Bool) {Q : Type 0}
      → (list_any (λ (b : Block). eqb b.off x) made
      || is_locked (all_locked wants locks) x write) ≡ true
      → (list_any (λ (w : Want). eqb w.id.off x && (w.write || not write)) wants ≡ true
      → Q) → ((list_any (λ (b : Block). eqb b.off x) made
      || is_locked locks x write) ≡ true → Q) → Q
  by x write e asked old =
      let new : Bool = list_any (λ (b : Block). eqb b.off x) made in
      ⊎_elim (λ (n : new ≡ true). old (or_left new (is_locked locks x write) n))
      (λ (l : is_locked (all_locked wants locks) x write ≡ true). ⊎_elim asked
      (λ (m : is_locked locks x write ≡ true). old
      (or_right new (is_locked locks x write) m))
      (all_locked_from wants locks x write l))
      (or_cases new (is_locked (all_locked wants locks) x write) e)

-- The entries of some objects, from what is known of the entry of each.
use Rattle.std.proofs.Common.{◌≡◌, ℕ, ◌+◌, ◌<◌, List, [], ◌∷◌, ◌++◌, append_assoc, get_or, length, map, take, refl, sym, ap, subst, ◌∙◌}
use Rattle.std.proofs.lemmas.List.{map-append, take_more}
use Rattle.std.specs.List.{All, AllZip}
use Rattle.std.proofs.lemmas.List.Elements.{All-head, All-map, All-tail, All-weaker}
use Rattle.pm_layout.specs.Sizes.{blocks_of}
use Rattle.pm_record.specs.declared.redo.Redo.{Redo}
use Rattle.solo_crash.specs.HeapChanges.{HeapChange, entry_of}
use Rattle.solo_crash.specs.HeapChanges.HeapChange.{AllocatesChunks, AllocatesInRun, FreesChunks, FreesInRun}
use Rattle.solo_crash.specs.NewObjects.{block_of_chunks, block_of_run}
use Rattle.solo_redo.specs.Entering.{IsOfWord, final_of}
use Rattle.solo_made.specs.declared.objects.Freed.{Freed}
use Rattle.solo_made.specs.declared.objects.Made.{Made}
use Rattle.solo_made.specs.Entries.{AllocatesBlockOf, FreesBlockOf, block_freed, block_made, entry_freeing, entry_making}

-- the entry is of a word, and performs each change that changes the object's block
pub record Performs {X : Type 0} (lanes : ℕ) (changes : HeapChange → X → Type 0) (entry : X → Redo) (x : X) : Type 0 where
  pub word : IsOfWord (entry x)
  pub performs : (change : HeapChange) → changes change x → final_of (entry x) ≡ entry_of lanes change

pub all_words : {X : Type 0} (lanes : ℕ) (changes : HeapChange → X → Type 0) (entry : X → Redo) (xs : List X) → All (Performs lanes changes entry) xs → All IsOfWord (map entry xs)
all_words {X = X} lanes changes entry xs all = All-map IsOfWord entry xs (All-weaker (Performs lanes changes entry) (λ (x : X). IsOfWord (entry x)) (λ x p. p.word) xs all)

pub all_perform : {X : Type 0} (lanes : ℕ) (changes : HeapChange → X → Type 0) (entry : X → Redo) (cs : List HeapChange) (xs : List X)
    → All (Performs lanes changes entry) xs → AllZip changes cs xs → map final_of (map entry xs) ≡ map (entry_of lanes) cs
all_perform lanes changes entry [] [] all zip = refl
all_perform lanes changes entry [] (x ∷ xs) all zip = absurd zip
all_perform lanes changes entry (c ∷ cs) [] all zip = absurd zip
all_perform lanes changes entry (c ∷ cs) (x ∷ xs) all zip =
    let head : final_of (entry x) ≡ entry_of lanes c = (All-head (Performs lanes changes entry) x xs all).performs c zip.0 in
    let rest : map final_of (map entry xs) ≡ map (entry_of lanes) cs = all_perform lanes changes entry cs xs (All-tail (Performs lanes changes entry) x xs all) zip.1 in
    (λ j. head j ∷ rest j)

-- the entry of an object that the call found and freed, and of one that it made
frees_by : (lanes : ℕ) (f : Freed) (e : Redo)
    → ((chunk lines index : ℕ) → index < blocks_of lines → block_of_run lanes chunk lines index ≡ block_freed f → final_of e ≡ entry_of lanes (FreesInRun chunk lines index))
    → ((chunk chunks : ℕ) → block_of_chunks lanes chunk chunks ≡ block_freed f → final_of e ≡ entry_of lanes (FreesChunks chunk chunks))
    → (change : HeapChange) → FreesBlockOf lanes change f → final_of e ≡ entry_of lanes change
frees_by lanes f e in_run whole (FreesInRun chunk lines index) frees = in_run chunk lines index frees.0 frees.1
frees_by lanes f e in_run whole (FreesChunks chunk chunks) frees = whole chunk chunks frees
frees_by lanes f e in_run whole (AllocatesInRun chunk lines index kind bytes) frees = absurd frees
frees_by lanes f e in_run whole (AllocatesChunks chunk chunks kind bytes) frees = absurd frees

allocates_by : (lanes : ℕ) (m : Made) (e : Redo)
    → ((chunk lines index kind : ℕ) (bytes : List ℕ) → index < blocks_of lines → block_of_run lanes chunk lines index ≡ block_made m → final_of e ≡ entry_of lanes (AllocatesInRun chunk lines index kind bytes))
    → ((chunk chunks kind : ℕ) (bytes : List ℕ) → block_of_chunks lanes chunk chunks ≡ block_made m → final_of e ≡ entry_of lanes (AllocatesChunks chunk chunks kind bytes))
    → (change : HeapChange) → AllocatesBlockOf lanes change m → final_of e ≡ entry_of lanes change
allocates_by lanes m e in_run whole (AllocatesInRun chunk lines index kind bytes) makes = in_run chunk lines index kind bytes makes.0 makes.1
allocates_by lanes m e in_run whole (AllocatesChunks chunk chunks kind bytes) makes = whole chunk chunks kind bytes makes
allocates_by lanes m e in_run whole (FreesInRun chunk lines index) makes = absurd makes
allocates_by lanes m e in_run whole (FreesChunks chunk chunks) makes = absurd makes

pub frees_each : (lanes : ℕ) (f : Freed) (e : Redo) → e ≡ entry_freeing lanes f → IsOfWord e
    → ((chunk lines index : ℕ) → index < blocks_of lines → block_of_run lanes chunk lines index ≡ block_freed f → final_of e ≡ entry_of lanes (FreesInRun chunk lines index))
    → ((chunk chunks : ℕ) → block_of_chunks lanes chunk chunks ≡ block_freed f → final_of e ≡ entry_of lanes (FreesChunks chunk chunks))
    → Performs lanes (FreesBlockOf lanes) (entry_freeing lanes) f
frees_each lanes f e is word in_run whole = record {
  word = subst IsOfWord is word;
  performs = λ change frees. ap final_of (sym is) ∙ frees_by lanes f e in_run whole change frees;
}

pub allocates_each : (lanes : ℕ) (m : Made) (e : Redo) → e ≡ entry_making lanes m → IsOfWord e
    → ((chunk lines index kind : ℕ) (bytes : List ℕ) → index < blocks_of lines → block_of_run lanes chunk lines index ≡ block_made m → final_of e ≡ entry_of lanes (AllocatesInRun chunk lines index kind bytes))
    → ((chunk chunks kind : ℕ) (bytes : List ℕ) → block_of_chunks lanes chunk chunks ≡ block_made m → final_of e ≡ entry_of lanes (AllocatesChunks chunk chunks kind bytes))
    → Performs lanes (AllocatesBlockOf lanes) (entry_making lanes) m
allocates_each lanes m e is word in_run whole = record {
  word = subst IsOfWord is word;
  performs = λ change makes. ap final_of (sym is) ∙ allocates_by lanes m e in_run whole change makes;
}

-- one more entry, behind those of the first so many objects
pub listed_more : {X : Type 0} (entry : X → Redo) (xs : List X) (i : ℕ) (d : X) (old now next : List Redo) (e : Redo) → i < length xs → now ≡ old ++ map entry (take i xs) → next ≡ now ++ e ∷ [] → e ≡ entry (get_or xs i d)
    → next ≡ old ++ map entry (take (i + 1) xs)
listed_more entry xs i d old now next e low before pushed is =
    pushed
    ∙ ((λ j. before j ++ is j ∷ [])
    ∙ (append_assoc old (map entry (take i xs)) (entry (get_or xs i d) ∷ [])
    ∙ ap (λ (es : List Redo). old ++ es) (sym (map-append entry (take i xs) (get_or xs i d ∷ [])) ∙ ap (map entry) (sym (take_more xs i d low)))))

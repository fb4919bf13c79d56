-- One more line behind some: what they told, gave, made of the words, and the memory calls that they made.
use Rattle.std.proofs.Common.{◌≡◌, ℕ, List, [], ◌∷◌, ◌++◌, None, refl, sym, ap, ◌∙◌, subst, append_assoc, append-nil}
use Rattle.solo_model.specs.Shown.{values_at, values_of}
use Rattle.solo_script.specs.declared.script.ScriptLine.{ScriptLine}
use Rattle.solo_view.specs.View.{Told, View}
use Rattle.solo_exec.specs.Course.{IsLineMade, LinesMade}
use Rattle.solo_exec.specs.Replies.{AreToldDone, IsToldDone, Values, values_told}
use Rattle.solo_exec.specs.Torn.{words_after, words_by}
use Rattle.solo_exec.specs.declared.calls.Names.{Names}

-- told done
pub told_more : (names : Names) (front : List ScriptLine) (said : ScriptLine) (told : List Told) (t : Told) → AreToldDone names front told → IsToldDone names said.operation t → AreToldDone names (front ++ said ∷ []) (told ++ t ∷ [])
told_more names [] said [] t are is = (is, tt)
told_more names [] said (x ∷ told) t are is = absurd are
told_more names (l ∷ front) said [] t are is = absurd are
told_more names (l ∷ front) said (x ∷ told) t are is = (are.0, told_more names front said told t are.1 is)

-- what they gave
pub gave_more : (names : Names) (front : List ScriptLine) (said : ScriptLine) (told : List Told) (t : Told) → AreToldDone names front told
    → values_told (front ++ said ∷ []) (told ++ t ∷ []) ≡ values_told front told ++ values_at said.line t.operation t.reply
unfolding values_of
gave_more names [] said [] t are = append-nil _
gave_more names [] said (x ∷ told) t are = absurd are
gave_more names (l ∷ front) said [] t are = absurd are
gave_more names (l ∷ front) said (x ∷ told) t are =
    ap (λ (vs : Values). values_at l.line x.operation x.reply ++ vs) (gave_more names front said told t are.1)
    ∙ sym (append_assoc (values_at l.line x.operation x.reply) (values_told front told) (values_at said.line t.operation t.reply))

-- a line that gives nothing
pub gave_nothing : (names : Names) (front : List ScriptLine) (said : ScriptLine) (told : List Told) (t : Told) (values : Values) → AreToldDone names front told → t.reply ≡ None → values ≡ values_told front told
    → values ≡ values_told (front ++ said ∷ []) (told ++ t ∷ [])
gave_nothing names front said told t values are none gave =
    gave ∙ sym (gave_more names front said told t are ∙ (ap (λ r. values_told front told ++ values_at said.line t.operation r) none ∙ append-nil (values_told front told)))

-- what they made of the words
pub words_more : (names : Names) (front : List ScriptLine) (said : ScriptLine) (w : ℕ → ℕ) (i : ℕ) → words_after names (front ++ said ∷ []) w i ≡ words_by names said.operation (words_after names front w) i
unfolding words_after
words_more names [] said w i = refl
words_more names (l ∷ front) said w i = words_more names front said (words_by names l.operation w) i

-- the memory calls that they made
pub made_more : (names : Names) (front : List ScriptLine) (said : ScriptLine) (u v w : View) → LinesMade names front u v → IsLineMade names said.operation v w → LinesMade names (front ++ said ∷ []) u w
unfolding LinesMade
made_more names [] said u v w made one = (w, subst (λ (x : View). IsLineMade names said.operation x w) made one, refl)
made_more names (l ∷ front) said u v w made one = (made.0, made.1, made_more names front said made.0 v w made.2 one)

-- What is said and replied to one more of a list.
use Rattle.std.proofs.Common.{◌≡◌, ℕ, ◌+◌, ◌<◌, List, [], ◌∷◌, ◌++◌, length, get_or, take, fold, refl, ap, ◌∙◌}
use Rattle.std.proofs.lemmas.List.{take_more}
use Rattle.filter.specs.declared.Filter.{Ghosts}
use Rattle.ordered.proofs.Floors.{below_from}
use Rattle.ordered.proofs.Rising.{from_rising}
use Rattle.reading_log.specs.View.{logged}
use Rattle.engine.proofs.Folds.{folded_append}
use Rattle.engine.specs.Checkpoints.{through}
use Rattle.engine.specs.Standing.{Stands}
use Rattle.engine.specs.declared.Engine.{Engine}
use Rattle.runs.specs.Ledger.{Ledger, blank, current, past, said, noted, sayings}
use Rattle.runs.specs.Replies.{replied, asked, replies}
use Rattle.runs.specs.Telling.{Tells}
use Rattle.runs.specs.declared.plain.Call.{Call}
use Rattle.runs.specs.declared.plain.Request.{Request}

sayings_push : (b : Ledger) (xs : List Call) (c : Call) → sayings b (xs ++ c ∷ []) ≡ sayings b xs ++ said (fold noted b xs) c ∷ []
sayings_push b [] c = refl
sayings_push b (x ∷ xs) c = ap (λ q. said b x ∷ q) (sayings_push (noted b x) xs c)

pub sayings_more : (b : Ledger) (calls : List Call) (i : ℕ) (d : Call) → i < length calls
    → sayings b (take (i + 1) calls) ≡ sayings b (take i calls) ++ said (fold noted b (take i calls)) (get_or calls i d) ∷ []
sayings_more b calls i d h = ap (sayings b) (take_more calls i d h) ∙ sayings_push b (take i calls) (get_or calls i d)

module _ {F C S E : Type 0} (f : Ghosts F C S E) where
  -- the state is the start state stepped once through all standing readings
  pub tells_state : (start : S) (b : Ledger) (e : Engine F C S E) → Tells f start b e → f.state e.filter ≡ through f e.filter start b.standing
  tells_state start b e h =
      let step = f.stepped (f.settings e.filter) in
      h.stands.state ∙ ap (fold step (fold step start (past b))) h.log ∙ folded_append step start (past b) (current b) ∙ ap (fold step start) (below_from b.floor b.standing (from_rising b.standing h.order))

  replies_push : (own : C) (start : S) (b : Ledger) (xs : List Request) (q : Request) → replies f own start b (xs ++ q ∷ []) ≡ replies f own start b xs ++ replied f own start (fold asked b xs) q ∷ []
  replies_push own start b [] q = refl
  replies_push own start b (x ∷ xs) q = ap (λ r. replied f own start b x ∷ r) (replies_push own start (asked b x) xs q)

  pub replies_more : (own : C) (start : S) (b : Ledger) (list : List Request) (i : ℕ) (d : Request) → i < length list
      → replies f own start b (take (i + 1) list) ≡ replies f own start b (take i list) ++ replied f own start (fold asked b (take i list)) (get_or list i d) ∷ []
  replies_more own start b list i d h = ap (replies f own start b) (take_more list i d h) ∙ replies_push own start b (take i list) (get_or list i d)

  -- a new engine is as the blank ledger says
  pub tells_new : (start : S) (e : Engine F C S E) → Stands f start e → e.floor ≡ 0 → logged e.log ≡ [] → Tells f start blank e
  tells_new start e h floor log = record { order = refl; floor = floor; log = log; stands = h }

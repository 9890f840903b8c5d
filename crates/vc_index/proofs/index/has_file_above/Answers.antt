use Rattle.std.proofs.Common.{rules, take, length, below_more, sym, ap, ◌∙◌}
use Rattle.std.specs.FinMap as paths
use Rattle.vc_index.specs.IndexMap.{index_of}
use Rattle.vc_index.proofs.MapLemmas.{get-index_of, no_some, none_of_test}
use Rattle.vc_index.proofs.ConflictLemmas.{above_cut, cut_above}
use Rattle.vc_index.proofs.index.has_file_above.Goals.{else-byte-eq47-via-then-byte-eq47+else-contains_key, else-byte-eq47-via-else-byte-eq47}
use Rattle.vc_index.proofs.index.has_file_above.Goals as goal

pub returns-then-contains_key : goal.returns-then-contains_key
returns-then-contains_key c =
    (λ _. (take c.loop-i.i c.args.path.now, rw get-index_of (search rules), cut_above c.args.path.now c.loop-i.i (search rules) (search rules)), λ _. search rules)

pub loop-i-preserved : goal.loop-i-preserved
loop-i-preserved c = below_more _ _ c.loop-i.invariant (λ slash. elim c.else-byte-eq47.branch [
  | else-byte-eq47-via-then-byte-eq47+else-contains_key w ↦ rw get-index_of (none_of_test _ (search rules))
  | else-byte-eq47-via-else-byte-eq47 w ↦ absurd (w.if-byte-eq47.false slash)
])

pub returns : goal.returns
returns c = (
  λ no. absurd (cc no),
  λ (other, some, above).
      let cut = above_cut c.args.path.now other above.0 above.1 in
      let none = c.loop-i.invariant (length other) (search (rules, cut.0)) cut.1 in
      absurd (no_some _ (ap (paths.get (index_of c.args.map.now)) (sym cut.2) ∙ none) some),
)

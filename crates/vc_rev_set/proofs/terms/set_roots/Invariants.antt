use Rattle.std.proofs.Common.{◌≡◌, Result, map, drop}
use Rattle.vc_files.specs.Failures.{Wears}
use Rattle.vc_rev_set.specs.RootsView.{roots_view}
use Rattle.vc_rev_set.specs.Selection.{Selection, SetGives, TermsAsk, TermsGive}
use Rattle.vc_rev.specs.Question.{Question}
use Rattle.vc_expression.specs.SetViews.{term_view}
use Rattle.vc_rev.specs.declared.refusal.Refusal.{Refusal}
use Rattle.vc_rev_set.proofs.terms.set_roots.Given as goal

-- what comes of the terms that are left is what comes of all, and what they ask all ask
abbrev pub invariant-terms : goal.invariant-terms
invariant-terms g l =
    let s = g.R.Repository.source (g.R.Repository.view_of l.initial.repo) in record {
      kept : g.R.Objects.state_of l.repo ≡ g.R.Objects.state_of l.initial.repo;
      seen : g.R.Repository.view_of l.repo ≡ g.R.Repository.view_of l.initial.repo;
      wear : Wears g.R.Objects.failed g.R.Objects.can_fail g.R.Objects.left l.initial.repo l.repo ⊥;
      onward : g.R.Objects.is_honest → (answer : Result Selection Refusal) → TermsGive s (map term_view (drop l.term-index l.terms)) (roots_view l.roots) answer → SetGives s (map term_view l.terms) answer;
      asked : g.R.Objects.is_honest → (question : Question) → TermsAsk s (map term_view (drop l.term-index l.terms)) question → TermsAsk s (map term_view l.terms) question;
    }

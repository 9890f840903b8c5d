-- All that the machine asks of its rules, of the layers' relations; and the rules that these make.
use Rattle.vc_model.specs.Rules.{Rules}
use Rattle.vc_rules.specs.Git.{git}
use Rattle.vc_values.specs.Laws.{GitLaws, rules_of}
use Rattle.vc_values.proofs.FaultLaws.{bodies_have_one_fault}
use Rattle.vc_values.proofs.TreeLaws.{trees_give_one, given_trees_are_closed}
use Rattle.vc_values.proofs.IndexTreeLaws.{index_trees_give_one, index_trees_are_named, index_trees_are_formed, index_trees_are_closed}
use Rattle.vc_values.proofs.ValueLaws.{expressions_have_one_value}

pub git_laws : GitLaws
git_laws = record {
  one_fault = bodies_have_one_fault;
  one_index = trees_give_one;
  index_reached = given_trees_are_closed;
  one_root = index_trees_give_one;
  trees_named = index_trees_are_named;
  trees_formed = index_trees_are_formed;
  trees_closed = index_trees_are_closed;
  one_value = expressions_have_one_value;
}

-- The rules of the machine at Git's format. They are defined here and not in specs/, which may not name a proof of its own crate.
abbrev pub git_rules : Rules git
git_rules = rules_of git_laws

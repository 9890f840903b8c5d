-- Git's object format as one of the machine's. What the machine asks of a format is handed in: a file of specs may not name a
-- proof of its own crate. Crates above hand in `links_agree`, `spells_commits` and `main_is_name` of proofs/Laws.
use Rattle.std.specs.Prelude.{ℕ}
use Rattle.std.proofs.lemmas.Bool.{and_parts}
use Rattle.std.specs.Str.{is_utf8}
use Rattle.vc_refname.specs.RefName.{is_ref_name}
use Rattle.vc_model.specs.Object.{Format}
use Rattle.vc_model.specs.World.{World, IsNew}
use Rattle.vc_model.specs.Run.{History, Run, NoCollision, NothingForgedToClones}
use Rattle.vc_model.specs.Safe.{IsSafe}
use Rattle.vc_format.specs.Git.{git_name, git_links, git_parents, git_is_legal, git_commit_body, LinksAgree, SpellsCommits, MainIsName}

abbrev pub git_format : LinksAgree → SpellsCommits → MainIsName → Format
git_format agree spells main = record {
  name_of = git_name;
  links = git_links;
  parents = git_parents;
  is_name = is_ref_name;
  is_legal = git_is_legal;
  legal_names = λ n legal. (and_parts (is_ref_name n) _ (and_parts (is_utf8 n) _ legal).1).0;
  main_is_name = main;
  commit_body = git_commit_body;
  blobs = agree.0;
  parents_linked = agree.1;
  commit_links = λ tree ps author committer message named a c. (spells tree ps author committer message named a c).0;
  commit_parents = λ tree ps author committer message named a c. (spells tree ps author committer message named a c).1;
}

-- Every run of a new world of Git objects is safe.
abbrev pub EveryGitRunIsSafe : Type 0
EveryGitRunIsSafe = (agree : LinksAgree) (spells : SpellsCommits) (main : MainIsName) (n : ℕ) (start : World) (h : History) → IsNew start n → Run (git_format agree spells main) start h →
    NoCollision (git_format agree spells main) start h → NothingForgedToClones h → IsSafe (git_format agree spells main) start h

-- From each new world there is such a run, and there are new worlds.
use Rattle.std.proofs.Common.{◌==◌, ◌≡◌, ◌≢◌, ℕ, zero, suc, ◌<◌, ◌≤◌, false, List, [], reverse, Some, None, ◌⊎◌, inl, inr, refl, sym, ap, ◌∙◌, subst, nat_cmp, arith}
use Rattle.std.specs.FinMap.{FinMap, get, insert, empty, get-empty, nat_cmp-IsAntisymmetric}
use Rattle.std.specs.Cmp.{nat_cmp_total, unsigned_Decides}
use Rattle.std.specs.Cmp.Lexicographic.{nat_list_cmp_total}
use Rattle.vc_model.specs.Refs.{branch, tracking}
use Rattle.vc_model.specs.Message.{Envelope}
use Rattle.vc_model.specs.Object.{Id, Object, Objects}
use Rattle.vc_model.specs.Shared.{SharedNode}
use Rattle.vc_model.specs.Clone.{CloneNode}
use Rattle.vc_model.specs.Clone.Awaited.{Nothing}
use Rattle.vc_model.specs.Exact.{IsUnfused}
use Rattle.vc_model.specs.ExactWorld.{FusedWorld, ExactHistory}
use Rattle.vc_model.specs.Fuse.{Fuse}
use Rattle.vc_model.specs.World.{IsNew, empty_repository}
use Rattle.vc_model.proofs.Maps.{insert_same, insert_other, bytes_same, same_key}
use Rattle.vc_model.proofs.Tracked.{value_at_clone}
use Rattle.vc_model.specs.Wire.{Wire}
use Rattle.vc_rules.specs.Git.{git}
use Rattle.vc_runs.specs.Names.{path, content, first_file, first_file_id, first_tree, first_tree_id, first_commit, first_commit_id, author, message}
use Rattle.vc_values.proofs.GitLaws.{git_rules}
use Rattle.vc_runs.specs.Wire.{Readings, git_wire}
use Rattle.vc_runs.specs.Witness.{HasAll, main, told, IsWitness, RunsExist, PremisesAreMet}
use Rattle.vc_runs.proofs.Names.{names_are_known}
use Rattle.vc_runs.proofs.GitFacts.{facts}
use Rattle.vc_runs.proofs.Stores.{Setting}
use Rattle.vc_runs.proofs.Stores as stores
use Rattle.vc_runs.proofs.Steps.{clone, up}
use Rattle.vc_runs.proofs.Steps as steps
use Rattle.vc_runs.proofs.Worlds.{Start, w0, w20, history, is_run, honest, first_clone, second_clone}
use Rattle.vc_runs.proofs.Brought.{no_collision}

abbrev here : (wire : Wire git) → wire.rules ≡ git_rules → Setting
here wire same = record { fmt = git; wire = wire; path = path; content = content; tree = first_tree; commit = first_commit; author = author; message = message; facts = facts wire same }

module _ (wire : Wire git) (same : wire.rules ≡ git_rules) (start : Start) (n : ℕ) (enough : 2 ≤ n) (unfused : (c : ℕ) → get start.fuses c ≡ None) (new : (c : ℕ) → (c < n) × (get start.clones c ≡ Some (clone empty_repository Nothing)) ⊎ (n ≤ c) × (get start.clones c ≡ None)) where
  is_new : (c : ℕ) → c < 2 → get start.clones c ≡ Some (clone empty_repository Nothing)
  is_new c below = elim (new c) [ inl h ↦ h.1 | inr h ↦ absurd (let k : n ≤ c = h.0 in omega arith) ]

  are_new : (c : ℕ) (m : CloneNode) → get start.clones c ≡ Some m → m ≡ clone empty_repository Nothing
  are_new c m g = elim (new c) [ inl h ↦ (let e = h.1 in cc) | inr h ↦ absurd (let e = h.1 in cc) ]

  known : git.name_of first_commit ≡ first_commit_id
  known = names_are_known.2

  abbrev all : Objects
  all = stores.all (here wire same)

  found_at : (y z : Id) (o : Object) → y ≡ z → get all y ≡ Some o → get all z ≡ Some o
  found_at y z o e g = subst (λ (w : Id). get all w ≡ Some o) e g

  has_all : HasAll (stores.all (here wire same))
  has_all =
      let finds = stores.found (here wire same) in (
        found_at (git.name_of first_file) first_file_id first_file names_are_known.0 finds.file,
        found_at (git.name_of first_tree) first_tree_id first_tree names_are_known.1 finds.tree,
        found_at (git.name_of first_commit) first_commit_id first_commit known finds.commit,
      )

  witness : IsWitness wire (w0 (here wire same) start) (history (here wire same) start)
  witness = record {
    run = is_run (here wire same) start (is_new 0 (omega arith)) (is_new 1 (omega arith)) (unfused 0) (unfused 1);
    tells = ap (λ y. reverse (told y)) known;
    apart = no_collision (here wire same) start are_new;
    honest = honest (here wire same) start;
    second_has = (
      clone (steps.fetched (here wire same)) Nothing,
      second_clone (here wire same) start (is_new 0 (omega arith)) (is_new 1 (omega arith)) (unfused 0) (unfused 1),
      has_all,
    );
    branch = insert_same nat_list_cmp_total bytes_same empty (branch main) (git.name_of first_commit) ∙ ap Some known;
    first_knows =
        value_at_clone (w20 (here wire same) start).world 0 main (git.name_of first_commit)
        (clone (steps.knowing (here wire same)) Nothing, first_clone (here wire same) start (is_new 0 (omega arith)) (is_new 1 (omega arith)) (unfused 0) (unfused 1), insert_same nat_list_cmp_total bytes_same (insert empty (branch main) (git.name_of first_commit)) (tracking main) (git.name_of first_commit))
        ∙ ap Some known;
    second_knows =
        value_at_clone (w20 (here wire same) start).world 1 main (git.name_of first_commit)
        (clone (steps.fetched (here wire same)) Nothing, second_clone (here wire same) start (is_new 0 (omega arith)) (is_new 1 (omega arith)) (unfused 0) (unfused 1), insert_same nat_list_cmp_total bytes_same empty (tracking main) (git.name_of first_commit))
        ∙ ap Some known;
  }

-- on any wire whose rules are these
pub run_on : (wire : Wire git) → wire.rules ≡ git_rules → (n : ℕ) (start : FusedWorld) → 2 ≤ n → IsNew start.world n → IsUnfused start → (h : ExactHistory) × IsWitness wire start h
run_on wire same n start enough new unfused =
    by_sent start.world.sent new.sent (by_shared start.world.shared new.shared (by_fuse start.shared_fuse unfused.shared
    (history (here wire same) parts, witness wire same parts n enough unfused.clones new.clones)))
  where
    parts : Start
    parts = record { clones = start.world.clones; senders = start.world.senders; frail = start.frail; fuses = start.clone_fuses }

    world_of : List Envelope → SharedNode → Fuse → FusedWorld
    world_of sent shared fuse = record { world = record { shared = shared; clones = start.world.clones; sent = sent; senders = start.world.senders }; frail = start.frail; shared_fuse = fuse; clone_fuses = start.clone_fuses }

    by_sent : (sent : List Envelope) → sent ≡ [] → ((h : ExactHistory) × IsWitness wire (world_of [] start.world.shared start.shared_fuse) h) → (h : ExactHistory) × IsWitness wire (world_of sent start.world.shared start.shared_fuse) h
    by_sent sent e h = subst (λ z. (h : ExactHistory) × IsWitness wire (world_of z start.world.shared start.shared_fuse) h) (sym e) h

    by_shared : (shared : SharedNode) → shared ≡ up empty_repository empty → ((h : ExactHistory) × IsWitness wire (world_of [] (up empty_repository empty) start.shared_fuse) h) → (h : ExactHistory) × IsWitness wire (world_of [] shared start.shared_fuse) h
    by_shared shared e h = subst (λ z. (h : ExactHistory) × IsWitness wire (world_of [] z start.shared_fuse) h) (sym e) h

    by_fuse : (fuse : Fuse) → fuse ≡ None → ((h : ExactHistory) × IsWitness wire (world_of [] (up empty_repository empty) None) h) → (h : ExactHistory) × IsWitness wire (world_of [] (up empty_repository empty) fuse) h
    by_fuse fuse e h = subst (λ z. (h : ExactHistory) × IsWitness wire (world_of [] (up empty_repository empty) z) h) (sym e) h

pub runs_exist : RunsExist
runs_exist readings n start enough new unfused = run_on (git_wire readings) refl n start enough new unfused

-- ---- new worlds

new_clones : ℕ → FinMap nat_cmp CloneNode
new_clones zero = empty
new_clones (suc n) = insert (new_clones n) n (clone empty_repository Nothing)

are_clones : (n c : ℕ) → (c < n) × (get (new_clones n) c ≡ Some (clone empty_repository Nothing)) ⊎ (n ≤ c) × (get (new_clones n) c ≡ None)
unfolding new_clones
are_clones zero c = inr (omega arith, get-empty nat_cmp c)
are_clones (suc n) c = elim (same_key nat_cmp_total nat_cmp-IsAntisymmetric c n) [
  | inl same ↦ inl (omega (arith, same), ap (get (new_clones (suc n))) same ∙ insert_same nat_cmp_total nat_cmp-IsAntisymmetric (new_clones n) n (clone empty_repository Nothing))
  | inr other ↦ older (insert_other nat_cmp_total nat_cmp-IsAntisymmetric (new_clones n) n (clone empty_repository Nothing) c other) other (are_clones n c)
]
  where
    older : get (new_clones (suc n)) c ≡ get (new_clones n) c → c ≢ n → (c < n) × (get (new_clones n) c ≡ Some (clone empty_repository Nothing)) ⊎ (n ≤ c) × (get (new_clones n) c ≡ None)
        → (c < suc n) × (get (new_clones (suc n)) c ≡ Some (clone empty_repository Nothing)) ⊎ (suc n ≤ c) × (get (new_clones (suc n)) c ≡ None)
    older e other (inl h) = inl ((let k : c < n = h.0 in omega arith), e ∙ h.1)
    older e other (inr h) = inr ((let k : n ≤ c = h.0 in omega (arith, other)), e ∙ h.1)

-- all bytes are refused with one number
some_readings : Readings
some_readings = record {
  reads = λ bytes m. false;
  refuses = λ bytes n. n == 80;
  named = λ bytes m e. absurd (cc);
  formed = λ bytes m e. absurd (cc);
  numbers = λ bytes n e. let same : n ≡ 80 = (unsigned_Decides n 80).0 e in inl (omega (arith, same), omega (arith, same));
  one_message = λ bytes m q e i. absurd (cc);
  one_refusal = λ bytes n k e i. (unsigned_Decides n 80).0 e ∙ sym ((unsigned_Decides k 80).0 i);
  apart = λ bytes m n e i. absurd (cc);
}

pub premises_are_met : PremisesAreMet
premises_are_met = (some_readings, new_world)
  where
    new_world : (n : ℕ) → (start : FusedWorld) × IsNew start.world n × IsUnfused start × (start.frail ≡ false)
    new_world n = (
      record { world = record { shared = up empty_repository empty; clones = new_clones n; sent = []; senders = empty }; frail = false; shared_fuse = None; clone_fuses = empty },
      record { shared = refl; clones = are_clones n; sent = refl },
      record { shared = refl; clones = λ c. get-empty nat_cmp c },
      refl,
    )

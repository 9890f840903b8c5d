use Rattle.std.proofs.Common.{rules, ◌≡◌, ℕ, true, List, [], ◌∷◌, ◌++◌, ap, subst}
use Rattle.std.proofs.KnownBytes.{Appends-trans}
use Rattle.std.proofs.lemmas.List.{append_assoc}
use Rattle.std.specs.Io.KnownBytes.{Appends}
use Rattle.std.specs.Prelude.{codes}
use Rattle.hex.specs.Hex.{encode_lower}
use Rattle.vc_cli.specs.Told.{old_branch_line}
use Rattle.vc_cli.proofs.faults.Faults.tell_old_branch.Goals as goal
use Rattle.vc_cli.proofs.faults.Faults.tell_old_branch.Goals.{then-self+in_ok-write+in_ok-write_all+in_ok-writeln, else-self}

pub returns-clause-told : goal.returns-clause-told
returns-clause-told g c = elim c.if-self.branch [
  | then-self+in_ok-write+in_ok-write_all+in_ok-writeln w ↦
      let contents = g.W.Write.contents in
      let before = contents c.args.self.now.stream in
      let after = contents w.writeln.new.self in
      let name = c.args.name.now in
      let id = encode_lower c.args.id.now.0 in
      let terminal : c.args.self.now.is_terminal ≡ true = search rules in
      let first : Appends before (contents w.write.new.self) (codes "vcs: refs/heads/" ++ (name ++ codes " was ")) = w.in_ok-write.ensures.bytes in
      let second : Appends (contents w.write.new.self) (contents w.write_all.new.self) id = subst (Appends (contents w.write.new.self) (contents w.write_all.new.self)) w.to_hex.ensures.digits w.in_ok-write_all.ensures.bytes in
      let third : Appends (contents w.write_all.new.self) after (10 ∷ []) = w.in_ok-writeln.ensures.bytes in
      let whole = Appends-trans before (contents w.write.new.self) after (codes "vcs: refs/heads/" ++ (name ++ codes " was ")) (id ++ 10 ∷ []) first (Appends-trans (contents w.write.new.self) (contents w.write_all.new.self) after id (10 ∷ []) second third) in
      let text : (codes "vcs: refs/heads/" ++ (name ++ codes " was ")) ++ (id ++ 10 ∷ []) ≡ old_branch_line name c.args.id.now =
      ap (λ (end : List ℕ). codes "vcs: refs/heads/" ++ end) (append_assoc name (codes " was ") (id ++ 10 ∷ [])) in
      rw terminal (rw w.self-is (subst (Appends before after) text whole))
  | else-self w ↦ search rules
]

use Rattle.std.proofs.Common.{refl}
use Rattle.vc_commands.proofs.PerformLemmas.{branching}
use Rattle.vc_commands.proofs.performing.write_with.Goals as goal

pub returns-in-Add : goal.returns-in-Add
returns-in-Add g c = λ bodies input. rw c.in-Add.is record {
  added = λ t h. rw c.requires at (c.add.ensures.added t h);
  refused = λ t h. rw c.requires at (c.add.ensures.refused t h);
  others = rw c.requires at c.add.ensures.others;
  trees = c.add.ensures.trees;
}

pub returns-in-Branch : goal.returns-in-Branch
returns-in-Branch g c = λ bodies input. rw c.in-Branch.is (
  record {
    changed = λ h. rw c.requires at (c.branch-alloc.ensures.set h);
    refused = λ h. rw c.requires at (branching c.branch-alloc.result _ _ _ _ _ _ _ (c.branch-alloc.ensures.refused h));
    always = λ h. tt;
    others = rw c.requires at c.branch-alloc.ensures.others;
  },
  refl,
)

pub returns-in-Checkout : goal.returns-in-Checkout
returns-in-Checkout g c = λ bodies input. rw c.in-Checkout.is record {
  brought = λ t h. rw c.requires at (c.checkout.ensures.done t h);
  refused = λ t h. rw c.requires at (c.checkout.ensures.refused t h);
  begun = λ t h. rw c.requires at (c.checkout.ensures.begun t h);
  others = rw c.requires at c.checkout.ensures.others;
  trees = c.checkout.ensures.trees;
}

pub returns-in-Status : goal.returns-in-Status
returns-in-Status g c = λ bodies input. rw c.in-Status.is record {
  printed = c.status.ensures.printed;
  refused = λ t. c.status.ensures.refused;
  nothing = c.status.ensures.nothing_printed;
  front = c.status.ensures.front;
  stores = c.status.ensures.stores;
  trees = c.status.ensures.trees;
}

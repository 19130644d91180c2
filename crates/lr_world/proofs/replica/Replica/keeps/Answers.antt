use Rattle.std.proofs.Common.{subst}
use Rattle.lr_causal.specs.GossipLaws.{StandInOrder-along}
use Rattle.lr_causal.specs.State.{state_of}
use Rattle.lr_world.specs.Sound.{IsSound}
use Rattle.lr_world.proofs.replica.Replica.keeps.Goals as goal

pub returns : goal.returns
returns g c =
    let it = c.self.inside.causal in
    subst (IsSound g.S.Op.Operation.kind_of) c.self.view_is record {
      own_place = it.own_place;
      val_parts = it.val_parts;
      imm_parts = it.imm_parts;
      told = record {
        rep_parts = it.rep_parts;
        logged = it.logged;
        updates_received = it.updates_received;
        acks_received = it.acks_received;
        ordered =
            StandInOrder-along c.log.result.now (state_of it).updates (state_of it).acks c.log.ensures.updates
            c.log.ensures.acks c.keeps.ensures;
      };
      known = it.known;
      asked = c.self.invariant;
    }

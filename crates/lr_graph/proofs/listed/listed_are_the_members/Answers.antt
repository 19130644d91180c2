use Rattle.std.proofs.Common.{◌≡◌, refl, subst}
use Rattle.lr_base.specs.Orders.{IsAmong}
use Rattle.lr_base.specs.declared.names.Cid.{Cid}
use Rattle.lr_base.specs.declared.names.Spot.{Spot}
use Rattle.lr_graph.specs.Graph.{calls_of, spots_of}
use Rattle.lr_graph.specs.Listed.{HasMember}
use Rattle.lr_graph.proofs.Lists.Members.{each-at, each-from}
use Rattle.lr_graph.proofs.StateLines.CallLists.{among-calls_of, ascends-calls_of, each-calls_of}
use Rattle.lr_graph.proofs.StateLines.Listing.{among-spots_of, ascends-spots_of, each-spots_of}
use Rattle.lr_graph.proofs.listed.listed_are_the_members.Goals as goal

pub returns-clause-spots : goal.returns-clause-spots
returns-clause-spots g c accepted set apart =
    let IsSo : Spot → Type 0 = λ spot. HasMember accepted set (λ a. a.spot ≡ spot) in
    record {
      ascends = ascends-spots_of accepted set apart;
      into = λ spot member. each-at IsSo spot (spots_of accepted set)
          (each-spots_of IsSo accepted set (each-from _ accepted (λ a among here. (a, among, here, refl)))) member;
      back = λ spot has. subst (λ s. IsAmong s (spots_of accepted set)) has.3
          (among-spots_of accepted set has.0 has.1 has.2);
    }

pub returns-clause-calls : goal.returns-clause-calls
returns-clause-calls g c accepted set =
    let IsSo : Cid → Type 0 = λ cid. HasMember accepted set (λ a. a.cid ≡ cid) in
    record {
      ascends = ascends-calls_of accepted set;
      into = λ cid member. each-at IsSo cid (calls_of accepted set)
          (each-calls_of IsSo accepted set (each-from _ accepted (λ a among here. (a, among, here, refl)))) member;
      back = λ cid has. subst (λ c. IsAmong c (calls_of accepted set)) has.3
          (among-calls_of accepted set has.0 has.1 has.2);
    }

use Rattle.std.proofs.Common.{[], refl}
use Rattle.cops_wire.proofs.AnsweredRequests.{map_err, map_ok}
use Rattle.cops_wire.proofs.ClientLemmas.{client_kept, client_served, client_served_in_part}
use Rattle.cops_wire.proofs.connections.Connection.answer_all.Goals as goal

pub returns-clause-served : goal.returns-clause-served
returns-clause-served g c = λ stream answered e f.
    map_ok c.answer_with.result (c.answer_with.ensures.served stream answered e f) (λ ended h. client_served g.N.Nodes.shape g.N.Nodes.Answers g.M.Moments.Gives stream answered _ _ _ _ _ _ ended h)

pub returns-clause-front : goal.returns-clause-front
returns-clause-front g c = λ stream answered e f.
    map_err c.answer_with.result (c.answer_with.ensures.front stream answered e f) (λ h. client_served_in_part g.N.Nodes.shape g.N.Nodes.Answers g.M.Moments.Gives stream answered _ _ _ _ _ h)

pub returns-clause-same_client : goal.returns-clause-same_client
returns-clause-same_client g c =
    let kept = client_kept g.N.Nodes.shape g.N.Nodes.Answers g.M.Moments.Gives c.args.self.now.bytes.items [] _ _ _ _ _ _ c.answer_with.result (c.answer_with.ensures.served c.args.self.now.bytes.items [] refl refl) (c.answer_with.ensures.front c.args.self.now.bytes.items [] refl refl) in
    kept.same

pub returns-clause-setting : goal.returns-clause-setting
returns-clause-setting g c =
    let kept = client_kept g.N.Nodes.shape g.N.Nodes.Answers g.M.Moments.Gives c.args.self.now.bytes.items [] _ _ _ _ _ _ c.answer_with.result (c.answer_with.ensures.served c.args.self.now.bytes.items [] refl refl) (c.answer_with.ensures.front c.args.self.now.bytes.items [] refl refl) in
    kept.setting

pub returns-clause-shape : goal.returns-clause-shape
returns-clause-shape g c =
    let kept = client_kept g.N.Nodes.shape g.N.Nodes.Answers g.M.Moments.Gives c.args.self.now.bytes.items [] _ _ _ _ _ _ c.answer_with.result (c.answer_with.ensures.served c.args.self.now.bytes.items [] refl refl) (c.answer_with.ensures.front c.args.self.now.bytes.items [] refl refl) in
    kept.shape_is

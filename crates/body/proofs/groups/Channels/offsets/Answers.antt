-- An offset that is not negative is its pattern.
use Rattle.std.proofs.Common.{◌≡◌, ℕ, ◌+◌, ◌*◌, sym, ap, ◌∙◌, rules, pos, nat_abs, to_z}
use Rattle.std.specs.Int.{w32}
use Rattle.std.specs.Int.Signed.{le_z}
use Rattle.num.proofs.Tests.{each-at}
use Rattle.num.specs.Number.{unsigned_at}
use Rattle.body.specs.Groups.{offset_at}
use Rattle.body.proofs.Laws.{natural-pattern}
use Rattle.body.proofs.groups.Channels.offsets.Goals as goal

pub returns : goal.returns
unfolding offset_at
returns c =
    let a = c.args in
    c.sixteen.ensures (λ (k : ℕ). nat_abs (offset_at a.order a.body.now k)) (λ k v l e.
    let q = each-at (λ (j : ℕ). le_z (pos 0) (offset_at a.order a.body.now j)) a.self.n k c.requires l in
    let h : v ≡ unsigned_at 4 a.order a.body.now (12 + 4 * k) = search rules in
    sym (natural-pattern v (rw h q)) ∙ ap (λ (u : ℕ). nat_abs (to_z w32 u)) h)

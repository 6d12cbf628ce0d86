use Rattle.std.proofs.Common.{inl, inr, refl}
use Rattle.initiator_books.proofs.OwnCommands.{unchanged}
use Rattle.initiator_books.proofs.commands.Commands.see.Goals as goal

pub returns-in-Accept : goal.returns-in-Accept
returns-in-Accept c =
    elim c.in-Accept.is [
      | inl x ↦ unchanged c.args.self.now c.args.event.now _ x.1 (λ m. refl)
      | inr y ↦
          elim y [
            | inl x ↦ unchanged c.args.self.now c.args.event.now _ x.1 (λ m. refl)
            | inr z ↦
                elim z [
                  | inl x ↦ unchanged c.args.self.now c.args.event.now _ x.1 (λ m. refl)
                  | inr x ↦ unchanged c.args.self.now c.args.event.now _ x.2 (λ m. refl)
                ]
          ]
    ]

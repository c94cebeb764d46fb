-- Where a phase may be shared, and its cells and messages may go to another thread, a post may be shared, and its
-- seats, and what lies in its slots, may go to another thread.
use denote.RattleType.{RattleType}
use denote.Builtin.{u8, u32}
use denote.Param.Send.{IsSend, IsSync, sendable}
use denote.Param.SendFields.{declared_send, declared_sync, as_row_sync}
use denote.Hole.{as_row}
use denote.Struct.Field.{row_field, u32-field}
use Rattle.std.proofs.Crossing.{Vec-send, Vec-sync, crosses}
use Rattle.std.specs.contracts.alloc.Global as Heap
use Rattle.std.specs.contracts.impls.GlobalAllocator.TheImpl.{ghosts}
use Rattle.std.specs.contracts.snapshot.Snapshot as Snapshot
use Rattle.std.specs.contracts.vec.Vec as Vec
use Rattle.phase_core.specs.contracts.envelope.Envelope as Envelope
use Rattle.phase_core.proofs.envelope.Envelope.TheSendSync as envelope
use Rattle.phase_core.specs.declared.phase.Phase as phase
use Rattle.std.specs.contracts.option.Option as Option
use Rattle.post_office.specs.contracts.pile.Pile as Pile
use Rattle.post_office.proofs.pile.Pile.TheSendSync as pile
use Rattle.post_office.specs.contracts.plain.About as About
use Rattle.post_office.specs.contracts.plain.Part as Part
use Rattle.post_office.specs.contracts.load.PostCellLegalLoad.TheImpl as legal
use Rattle.post_office.specs.contracts.load.PostCellLoad.TheImpl as cell
use Rattle.post_office.specs.contracts.load.PostBoxLoad.TheImpl as box
use Rattle.post_office.specs.contracts.load.PostCell as PostCell
use Rattle.post_office.specs.contracts.load.PostBox as PostBox
use Rattle.post_office.specs.contracts.post.Post as Post
use Rattle.quiet_table.specs.contracts.board.BoardSeat as BoardSeat
use Rattle.quiet_table.specs.contracts.board.Board as Board
use Rattle.quiet_table.proofs.board.BoardSeat.TheSendSync as seat
use Rattle.quiet_table.proofs.board.Board.TheSendSync as board

known_send : (Y : RattleType) → IsSend (Snapshot.the_row Y)
known_send Y = search crosses

known_sync : (Y : RattleType) → IsSync (Snapshot.the_row Y)
known_sync Y = search crosses

number_send : IsSend (as_row u32-field)
number_send = search sendable

numbers_sync : IsSync (Vec.the_row u32 Heap.the_row ghosts)
numbers_sync = Vec-sync u32 (search sendable)

abbrev bytes : RattleType
bytes = Vec.the_row u8 Heap.the_row ghosts

bytes_sync : IsSync bytes
bytes_sync = Vec-sync u8 (search sendable)

module _ (P C M Q : RattleType) (g : phase.Ghosts P.Denot C.Denot M.Denot Q.Denot) where
  pub box_send : IsSend C → IsSend M → IsSend (PostBox.the_row P C M Q g)
  box_send c m = declared_send (PostBox.the_type P C M Q g) (known_send bytes, (number_send, (pile.the_send M m, (Vec-send C c, tt))))

  pub cell_send : IsSend C → IsSend M → IsSend (PostCell.the_row P C M Q g)
  cell_send c m = declared_send (PostCell.the_type P C M Q g) (known_send P, (known_send (Vec.the_row C Heap.the_row ghosts), (known_send bytes, (number_send, (Vec-send C c, (Vec-send (Pile.the_row M) (pile.the_send M m), (Vec-send (Envelope.the_row M) (envelope.the_send M m), tt)))))))

  pub seat_send : IsSend C → IsSend M → IsSend (BoardSeat.the_row (PostCell.the_row P C M Q g) (PostBox.the_row P C M Q g) (Option.the_row (About.the_row P Q)) (Part.the_row P Q C) (Envelope.the_row M)
      (legal.ghosts P C M Q g legal.no_dict legal.no_dict legal.no_dict legal.no_dict) (cell.ghosts P C M Q g cell.no_dict cell.no_dict cell.no_dict cell.no_dict) (box.ghosts P C M Q g box.no_dict box.no_dict box.no_dict box.no_dict))
  seat_send c m = seat.the_send (PostCell.the_row P C M Q g) (PostBox.the_row P C M Q g) (Option.the_row (About.the_row P Q)) (Part.the_row P Q C) (Envelope.the_row M)
      (legal.ghosts P C M Q g legal.no_dict legal.no_dict legal.no_dict legal.no_dict) (cell.ghosts P C M Q g cell.no_dict cell.no_dict cell.no_dict cell.no_dict) (box.ghosts P C M Q g box.no_dict box.no_dict box.no_dict box.no_dict)
      (cell_send c m) (box_send c m)

  board_sync : IsSend C → IsSend M → IsSync (Board.the_row (PostCell.the_row P C M Q g) (PostBox.the_row P C M Q g) (Option.the_row (About.the_row P Q)) (Part.the_row P Q C) (Envelope.the_row M)
      (legal.ghosts P C M Q g legal.no_dict legal.no_dict legal.no_dict legal.no_dict) (cell.ghosts P C M Q g cell.no_dict cell.no_dict cell.no_dict cell.no_dict) (box.ghosts P C M Q g box.no_dict box.no_dict box.no_dict box.no_dict))
  board_sync c m = board.the_sync (PostCell.the_row P C M Q g) (PostBox.the_row P C M Q g) (Option.the_row (About.the_row P Q)) (Part.the_row P Q C) (Envelope.the_row M)
      (legal.ghosts P C M Q g legal.no_dict legal.no_dict legal.no_dict legal.no_dict) (cell.ghosts P C M Q g cell.no_dict cell.no_dict cell.no_dict cell.no_dict) (box.ghosts P C M Q g box.no_dict box.no_dict box.no_dict box.no_dict)
      (cell_send c m) (box_send c m)

  pub post_sync : IsSync P → IsSend C → IsSend M → IsSync (Post.the_row P C M Q g)
  post_sync p c m = declared_sync (Post.the_type P C M Q g) (board_sync c m, (as_row_sync (row_field P) p, (known_sync (Vec.the_row C Heap.the_row ghosts), (bytes_sync, (numbers_sync, tt)))))

-- The C interface: a report as it crosses it. No lemmas here.
use Rattle.std.specs.Prelude.{ℕ, [], ◌∷◌, get_or}
use Rattle.refusal.specs.Answer.{Answer}
use Rattle.report.specs.Row.{Row, count_in, least_in, greatest_in, sum_in}
use Rattle.report.specs.Report.{Report, row_at}
use Rattle.answers.specs.declared.drive.IsmReportRow.{IsmReportRow}
use Rattle.answers.specs.declared.drive.IsmReport.{IsmReport}

-- a row by the names of its numbers, and its numbers
abbrev pub report_row_of : Row → IsmReportRow
report_row_of row = record { count = count_in row; least = least_in row; greatest = greatest_in row; sum = sum_in row }

abbrev pub numbers_in : IsmReportRow → Row
numbers_in row = row.count ∷ row.least ∷ row.greatest ∷ row.sum ∷ []

-- one of the rows of a report
abbrev pub row_in : IsmReport → ℕ → Row
row_in report k = numbers_in (get_or report.rows k (record { count = 0; least = 0; greatest = 0; sum = 0 }))

-- the rows of a report that came in, whatever its number and place
abbrev pub report_in : IsmReport → Report
report_in report = row_in report 0 ∷ row_in report 1 ∷ row_in report 2 ∷ row_in report 3 ∷ row_in report 4 ∷ []

-- number and place of document 01, and five rows
abbrev pub report_answer_of : Answer → Report → IsmReport
report_answer_of a report =
    record {
      number = a.number;
      place = a.place;
      rows =
          report_row_of (row_at report 0)
          ∷ report_row_of (row_at report 1)
          ∷ report_row_of (row_at report 2)
          ∷ report_row_of (row_at report 3)
          ∷ report_row_of (row_at report 4)
          ∷ [];
    }
